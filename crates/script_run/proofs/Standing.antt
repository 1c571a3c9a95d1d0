-- A script between two reads of its input.
use Rattle.std.proofs.Common.{◌≡◌, ℕ, ◌+◌, ◌-◌, ◌<◌, ◌≤◌, ⊎_elim, List, [], ◌++◌, length, take, drop, refl, sym, ap, subst, ◌∙◌, arith, append_assoc, length-append, length-drop}
use Rattle.std.specs.Prelude.{Result, Ok, Err, OnOk}
use Rattle.std.proofs.lemmas.Bool.{cases_lt, lt-ltb, le-ltb}
use Rattle.std.proofs.lemmas.List.{append-nil, take_at, take_all, length-take-le}
use Rattle.disk_model.specs.World.{World, LeavesOnly}
use Rattle.disk_model.proofs.Moments.{started, within}
use Rattle.place_values.specs.State.{Contents}
use Rattle.irtree_engine.specs.Holding.{HoldsState}
use Rattle.run_outcome.specs.Asking.{AreAsking, ReadsForLines}
use Rattle.run_outcome.specs.Left.{LeftByLines}
use Rattle.run_outcome.specs.Said.{SaysFrontOf}
use Rattle.run_outcome.specs.Script.{Cut, cut, script, last_line, input_max, script_lines, script_transcript}
use Rattle.run_outcome.specs.Turn.{Turn, Done, Input}
use Rattle.run_outcome.specs.declared.ended.Ended.{Ended}
use Rattle.run_outcome.specs.declared.ended.Ended.TheVariants as ends
use Rattle.run_outcome.specs.declared.ended.InputFault.TheVariants.{Long}
use Rattle.run_outcome.specs.declared.ended.LimitFault.TheVariants as limits
use Rattle.script_run.specs.Feed.{kept}
use Rattle.script_run.specs.Lines.{StopsAmong, RunsLines, RunsPiece}
use Rattle.script_run.specs.Standing.{Standing, SaysRepliesOf, Stops, EndsScript}
use Rattle.script_run.proofs.Asking.{reads-nothing}
use Rattle.script_run.proofs.Fronts.{length-take_most, take-behind, front-whole, front-goes_on, parts-came}
use Rattle.script_run.proofs.Lines.{cut-append, kept-nil, script-none}
use Rattle.script_run.proofs.Runs.{text-append, left-goes_on, runs-then, runs-goes_on}

-- the greatest number of bytes, as code writes it
pub input_max-is : input_max ≡ 268435456
unfolding input_max
input_max-is = refl

-- ---- the lines of a script

-- of a script that is too long the lines within what it may have
lines-long : (input : List ℕ) → input_max < length input → script_lines input ≡ (cut (take input_max input)).lines
lines-long input long = rw (lt-ltb input_max (length input) long) refl

-- of any other script all lines, and the last one without its LF
pub lines-short : (input : List ℕ) → length input ≤ input_max → script_lines input ≡ (cut input).lines ++ last_line (cut input).rest
lines-short input short = rw (le-ltb input_max (length input) short) refl

-- a script that is too long is refused
end-long : (state : Contents) (input : List ℕ) → input_max < length input → (script_transcript state input).end ≡ Input Long
end-long state input long = rw (lt-ltb input_max (length input) long) refl

-- any other one is done
end-short : (state : Contents) (input : List ℕ) → length input ≤ input_max → (script_transcript state input).end ≡ Done
end-short state input short = rw (le-ltb input_max (length input) short) refl

-- the lines of what was read, when more comes
pub cut-more : (read piece : List ℕ) → (cut (read ++ piece)).lines ≡ (cut read).lines ++ (cut ((cut read).rest ++ piece)).lines
cut-more read piece = ap (λ (c : Cut). c.lines) (cut-append read piece)

-- the lines of a script begin with those that any front of it ends
pub lines-front : (input read left : List ℕ) → input ≡ read ++ left → length read ≤ input_max → (more : List (List ℕ)) × (script_lines input ≡ (cut read).lines ++ more)
lines-front input read left is few = ⊎_elim
    (λ (long : input_max < length input).
    let room : length read + (input_max - length read) ≡ input_max = omega arith in
    let front : take input_max input ≡ read ++ take (input_max - length read) left =
    ap (take input_max) is ∙ ap (λ n. take n (read ++ left)) (sym room) ∙ take-behind read left (input_max - length read) in
    (_, lines-long input long ∙ ap (λ b. (cut b).lines) front ∙ cut-more read (take (input_max - length read) left)))
    (λ (short : length input ≤ input_max). (
      _,
      lines-short input short ∙ ap (λ l. l ++ last_line (cut input).rest) (ap (λ b. (cut b).lines) is ∙ cut-more read left)
          ∙ append_assoc (cut read).lines (cut ((cut read).rest ++ left)).lines (last_line (cut input).rest),
    ))
    (cases_lt input_max (length input))

-- ---- how a run over all lines ends the script

-- what stops a run over all lines stops the script
stops-script : (start : Contents) (input : List ℕ) (first new : World) (end : Ended) → StopsAmong start (script_lines input) first.said new end → Stops start input first new end
stops-script start input first new ends.Memory stops = stops
stops-script start input first new ends.Disk stops = stops
stops-script start input first new ends.Sink stops = stops
stops-script start input first new (ends.Limit limits.NoRoom) stops = stops
stops-script start input first new _ stops = absurd stops

-- a script that stopped has ended
pub stops-ends : (T : Type 0) (start : Contents) (input left : List ℕ) (first new : World) (end : Ended) → Stops start input first new end → EndsScript {T = T} start input left first new (Err end)
stops-ends T start input left first new ends.Memory stops = stops
stops-ends T start input left first new ends.Disk stops = stops
stops-ends T start input left first new ends.Sink stops = stops
stops-ends T start input left first new (ends.Input fault) stops = stops
stops-ends T start input left first new (ends.Limit fault) stops = stops
stops-ends T start input left first new _ stops = absurd stops

-- a script that was run whole has ended
runs-ends : {T : Type 0} (start : Contents) (input left : List ℕ) (first new : World) (result : Result T Ended) → length input ≤ input_max → left ≡ [] → RunsLines start (script_lines input) first new result → EndsScript start input left first new result
runs-ends start input left first new (Ok value) short none runs = (record { end = end-short start input short; said = runs.said; holds = runs.holds }, none)
runs-ends {T = T} start input left first new (Err end) short none runs = stops-ends T start input left first new end (stops-script start input first new end runs.stops)

-- nothing was done, for want of memory
pub ends-lost : (T : Type 0) (start : Contents) (input : List ℕ) (now : World) → EndsScript {T = T} start input input now now (Err ends.Memory)
ends-lost T start input now = (0, sym (append-nil now.said))

-- ---- between two reads

-- nothing was read yet
pub standing-start : (start : Contents) (input line : List ℕ) (now : World) → line ≡ [] → HoldsState now start → Standing start input input now now line 0
standing-start start input line now none holds = record {
  read = [];
  came = refl;
  count = refl;
  holds = subst (λ (u : Turn). HoldsState now u.state) (sym (script-none start)) holds;
  keeps = none ∙ kept-nil;
  said = sym (ap (λ (u : Turn). now.said ++ u.text) (script-none start) ∙ append-nil now.said);
  left_by = started now;
  reads = λ asks. reads-nothing start [] now;
}

module _ (start : Contents) (input left : List ℕ) (first now : World) (line : List ℕ) (taken : ℕ) (s : Standing start input left first now line taken) where
  -- the lines of what was read were acted on
  standing-runs : RunsLines {T = Unit {0}} start (cut s.read).lines first now (Ok tt)
  standing-runs = record { said = s.said; holds = s.holds; stops = tt; left_by = s.left_by; reads = s.reads }

  -- and then some of a piece
  part-runs : {T : Type 0} (part : List ℕ) (new : World) (result : Result T Ended) → RunsLines (script start (cut s.read).lines).state (cut ((cut s.read).rest ++ part)).lines now new result → RunsLines start (cut (s.read ++ part)).lines first new result
  part-runs part new result runs = subst (λ (lines : List (List ℕ)). RunsLines start lines first new result) (sym (cut-more s.read part))
      (runs-then start (cut s.read).lines (cut ((cut s.read).rest ++ part)).lines first now new tt standing-runs result runs)

  -- the input is what was read, a part of a piece, and what is behind it
  part-came : (part after : List ℕ) → left ≡ part ++ after → input ≡ (s.read ++ part) ++ after
  part-came part after is = s.came ∙ ap (λ r. s.read ++ r) is ∙ sym (append_assoc s.read part after)

  -- a piece was acted on
  pub standing-fed : (piece next longer : List ℕ) (new : World) (after : ℕ) → left ≡ piece ++ next → longer ≡ kept (cut ((cut s.read).rest ++ piece)).rest → after ≤ 268435456 → after ≡ taken + length piece
      → RunsLines (script start (cut s.read).lines).state (cut ((cut s.read).rest ++ take (268435456 - taken) piece)).lines now new (Ok after) → Standing start input next first new longer after
  standing-fed piece next longer new after is keeps few counts runs =
      let whole : take (268435456 - taken) piece ≡ piece = take_all (268435456 - taken) piece (omega arith) in
      let all : RunsLines start (cut (s.read ++ piece)).lines first new (Ok after) = subst (λ (part : List ℕ). RunsLines start (cut (s.read ++ part)).lines first new (Ok after)) whole (part-runs (take (268435456 - taken) piece) new (Ok after) runs) in
      record {
        read = s.read ++ piece;
        came = part-came piece next is;
        count = length-append s.read piece ∙ ap (λ n. n + length piece) s.count ∙ sym counts;
        holds = all.holds;
        keeps = keeps ∙ ap (λ (c : Cut). kept c.rest) (sym (cut-append s.read piece));
        said = all.said;
        left_by = all.left_by;
        reads = all.reads;
      }

  -- a crash left one of the states around a line
  pub standing-left : taken ≤ input_max → LeavesOnly first now (LeftByLines start (script_lines input) first.said)
  standing-left few =
      let whole = lines-front input s.read left s.came (omega (arith, s.count)) in
      within s.left_by (λ image said kept_by. subst (λ (lines : List (List ℕ)). LeftByLines start lines first.said image said) (sym whole.1) (left-goes_on start (cut s.read).lines whole.0 first.said image said kept_by))

  -- the source failed
  pub standing-failed : (next : List ℕ) → next ≡ left → taken ≤ input_max → SaysRepliesOf start input next first now × SaysFrontOf (script_transcript start input).turn.text first.said now.said
  standing-failed next is few =
      let whole = lines-front input s.read left s.came (omega (arith, s.count)) in (
        record { read = s.read; came = s.came ∙ ap (λ r. s.read ++ r) (sym is); said = s.said; holds = s.holds },
        subst (λ (lines : List (List ℕ)). SaysFrontOf (script start lines).text first.said now.said) (sym whole.1)
            (front-goes_on _ _ _ first.said now.said (text-append start (cut s.read).lines whole.0) (front-whole (script start (cut s.read).lines).text first.said now.said s.said)),
      )

  -- the last line was acted on, where the input was read to its end
  standing-all : {T : Type 0} (new : World) (result : Result T Ended) → taken ≤ input_max → left ≡ [] → RunsLines (script start (cut s.read).lines).state (last_line (cut s.read).rest) now new result
      → (length input ≤ input_max) × RunsLines start (script_lines input) first new result
  standing-all new result few none runs =
      let all : input ≡ s.read = s.came ∙ ap (λ r. s.read ++ r) none ∙ append-nil s.read in
      let short : length input ≤ input_max = omega (arith, ap length all, s.count) in
      let lines : script_lines input ≡ (cut s.read).lines ++ last_line (cut s.read).rest = lines-short input short ∙ ap (λ b. (cut b).lines ++ last_line (cut b).rest) all in (
        short,
        subst (λ (l : List (List ℕ)). RunsLines start l first new result) (sym lines)
            (runs-then start (cut s.read).lines (last_line (cut s.read).rest) first now new tt standing-runs result runs),
      )

  -- so the script ended
  pub standing-ends : {T : Type 0} (next : List ℕ) (new : World) (result : Result T Ended) → taken ≤ input_max → left ≡ [] → next ≡ [] → RunsLines (script start (cut s.read).lines).state (last_line (cut s.read).rest) now new result → EndsScript start input next first new result
  standing-ends next new result few none gone runs =
      let all = standing-all new result few none runs in
      runs-ends start input next first new result all.0 gone all.1

  -- and a crash left one of the states around a line
  pub standing-ends_left : {T : Type 0} (new : World) (result : Result T Ended) → taken ≤ input_max → left ≡ [] → RunsLines (script start (cut s.read).lines).state (last_line (cut s.read).rest) now new result → LeavesOnly first new (LeftByLines start (script_lines input) first.said)
  standing-ends_left new result few none runs = (standing-all new result few none runs).1.left_by

  -- and, where its lines only ask, it read what their queries call for
  pub standing-ends_reads : {T : Type 0} (new : World) (result : Result T Ended) → taken ≤ input_max → left ≡ [] → RunsLines (script start (cut s.read).lines).state (last_line (cut s.read).rest) now new result → AreAsking (script_lines input) → OnOk result (ReadsForLines start (script_lines input) first new)
  standing-ends_reads new result few none runs = (standing-all new result few none runs).1.reads

  -- ---- a piece at which the script ends
  module _ (piece next : List ℕ) (new : World) (is : left ≡ piece ++ next) (few : taken ≤ 268435456) where
    -- the part of a piece that is within what a script may have
    short_part : length (s.read ++ take (268435456 - taken) piece) ≤ input_max
    short_part = omega (arith, length-append s.read (take (268435456 - taken) piece), s.count, input_max-is, length-take_most (268435456 - taken) piece)

    -- a run that stopped within the piece stopped the script
    broken : (end : Ended) → RunsLines {T = ℕ} (script start (cut s.read).lines).state (cut ((cut s.read).rest ++ take (268435456 - taken) piece)).lines now new (Err end) → RunsLines {T = ℕ} start (script_lines input) first new (Err end)
    broken end runs =
        let part = take (268435456 - taken) piece in
        let after = drop (268435456 - taken) piece ++ next in
        let whole = lines-front input (s.read ++ part) after (part-came part after (parts-came piece left next (268435456 - taken) is)) short_part in
        subst (λ (lines : List (List ℕ)). RunsLines {T = ℕ} start lines first new (Err end)) (sym whole.1)
        (runs-goes_on start (cut (s.read ++ part)).lines whole.0 first new end (part-runs part new (Err end) runs))

    -- one over all that a script may have is the whole of it
    too_long : 268435456 - taken < length piece → RunsLines {T = Unit {0}} (script start (cut s.read).lines).state (cut ((cut s.read).rest ++ take (268435456 - taken) piece)).lines now new (Ok tt)
        → (input_max < length input) × RunsLines {T = Unit {0}} start (script_lines input) first new (Ok tt)
    too_long more runs =
        let part = take (268435456 - taken) piece in
        let after = drop (268435456 - taken) piece ++ next in
        let came : input ≡ (s.read ++ part) ++ after = part-came part after (parts-came piece left next (268435456 - taken) is) in
        let full : length (s.read ++ part) ≡ input_max = omega (arith, length-append s.read part, s.count, input_max-is, length-take-le (268435456 - taken) piece (omega arith)) in
        let long : input_max < length input = omega (arith, ap length came, length-append (s.read ++ part) after, length-append (drop (268435456 - taken) piece) next, length-drop (268435456 - taken) piece, full) in
        let lines : script_lines input ≡ (cut (s.read ++ part)).lines = lines-long input long ∙ ap (λ b. (cut b).lines) (ap (take input_max) came ∙ take_at (s.read ++ part) after input_max full) in
        (long, subst (λ (l : List (List ℕ)). RunsLines {T = Unit {0}} start l first new (Ok tt)) (sym lines) (part-runs part new (Ok tt) runs))

    -- the script ended
    pub piece-ends : (end : Ended) → RunsPiece (script start (cut s.read).lines).state (cut ((cut s.read).rest ++ take (268435456 - taken) piece)).lines (268435456 - taken) (length piece) now new (Err end)
        → Stops start input first new end
    piece-ends ends.Memory runs = stops-script start input first new ends.Memory (broken ends.Memory runs).stops
    piece-ends ends.Disk runs = stops-script start input first new ends.Disk (broken ends.Disk runs).stops
    piece-ends ends.Sink runs = stops-script start input first new ends.Sink (broken ends.Sink runs).stops
    piece-ends (ends.Limit fault) runs = stops-script start input first new (ends.Limit fault) (broken (ends.Limit fault) runs).stops
    piece-ends (ends.Input fault) runs =
        let all = too_long runs.1 runs.2 in
        record { end = end-long start input all.0 ∙ ap Input (sym runs.0); said = all.1.said; holds = all.1.holds }
    piece-ends _ runs = absurd runs

    -- and a crash left one of the states around a line
    pub piece-left : (end : Ended) → RunsPiece (script start (cut s.read).lines).state (cut ((cut s.read).rest ++ take (268435456 - taken) piece)).lines (268435456 - taken) (length piece) now new (Err end)
        → LeavesOnly first new (LeftByLines start (script_lines input) first.said)
    piece-left ends.Memory runs = (broken ends.Memory runs).left_by
    piece-left ends.Disk runs = (broken ends.Disk runs).left_by
    piece-left ends.Sink runs = (broken ends.Sink runs).left_by
    piece-left (ends.Limit fault) runs = (broken (ends.Limit fault) runs).left_by
    piece-left (ends.Input fault) runs = (too_long runs.1 runs.2).1.left_by
    piece-left _ runs = absurd runs

-- a run that stopped within a piece
pub piece-stopped : (state : Contents) (lines : List (List ℕ)) (room len : ℕ) (old new : World) (end : Ended) → RunsLines {T = Unit {0}} state lines old new (Err end) → RunsPiece state lines room len old new (Err end)
piece-stopped state lines room len old new ends.Memory runs = record { said = tt; holds = tt; stops = runs.stops; left_by = runs.left_by; reads = λ asks. tt }
piece-stopped state lines room len old new ends.Disk runs = record { said = tt; holds = tt; stops = runs.stops; left_by = runs.left_by; reads = λ asks. tt }
piece-stopped state lines room len old new ends.Sink runs = record { said = tt; holds = tt; stops = runs.stops; left_by = runs.left_by; reads = λ asks. tt }
piece-stopped state lines room len old new (ends.Limit fault) runs = record { said = tt; holds = tt; stops = runs.stops; left_by = runs.left_by; reads = λ asks. tt }
piece-stopped state lines room len old new _ runs = absurd runs.stops
