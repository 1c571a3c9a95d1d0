-- A script whose lines only read, between two reads of its input.
use Rattle.std.proofs.Common.{◌≡◌, ℕ, ◌+◌, ◌-◌, ◌≤◌, List, [], ◌++◌, length, take, drop, refl, sym, ap, subst, ◌∙◌, arith, append_assoc, length-append}
use Rattle.std.specs.Prelude.{Result}
use Rattle.std.proofs.lemmas.List.{append-nil, take_all}
use Rattle.disk_model.specs.World.{World}
use Rattle.run_outcome.specs.Reading.{AreReading, KeepsImage}
use Rattle.run_outcome.specs.Script.{Cut, cut, last_line, input_max, script_lines}
use Rattle.run_outcome.specs.declared.ended.Ended.{Ended}
use Rattle.script_run.specs.Feed.{kept}
use Rattle.script_run.proofs.Fronts.{length-take_most, parts-came}
use Rattle.script_run.proofs.Lines.{cut-append, kept-nil}
use Rattle.script_run.proofs.Reading.{keeps-then, reading-first, reading-next}
use Rattle.script_run.proofs.Standing.{cut-more, input_max-is, lines-front, lines-short}

-- Some bytes were read, and where their lines only read the image is as it was.
pub record Untouched (input left : List ℕ) (first now : World) (line : List ℕ) (taken : ℕ) : Type 0 where
  pub read : List ℕ
  pub came : input ≡ read ++ left
  pub count : length read ≡ taken
  pub keeps : line ≡ kept (cut read).rest
  pub stays : AreReading (cut read).lines → now.seen ≡ first.seen

-- nothing was read yet
pub untouched-start : (input line : List ℕ) (now : World) → line ≡ [] → Untouched input input now now line 0
untouched-start input line now none = record { read = []; came = refl; count = refl; keeps = none ∙ kept-nil; stays = λ reads. refl }

module _ (input left : List ℕ) (first now : World) (line : List ℕ) (taken : ℕ) (u : Untouched input left first now line taken) where
  -- nothing more was done
  pub untouched-still : taken ≤ input_max → AreReading (script_lines input) → now.seen ≡ first.seen
  untouched-still few reads =
      let whole = lines-front input u.read left u.came (omega (arith, u.count)) in
      u.stays (reading-first (cut u.read).lines whole.0 (subst AreReading whole.1 reads))

  -- the last line was acted on, where the input was read to its end
  pub untouched-ends : {T : Type 0} (new : World) (result : Result T Ended) → taken ≤ input_max → left ≡ [] → (AreReading (last_line (cut u.read).rest) → KeepsImage now new result) → AreReading (script_lines input) → KeepsImage first new result
  untouched-ends new result few none call reads =
      let all : input ≡ u.read = u.came ∙ ap (λ r. u.read ++ r) none ∙ append-nil u.read in
      let short : length input ≤ input_max = omega (arith, ap length all, u.count) in
      let lines : script_lines input ≡ (cut u.read).lines ++ last_line (cut u.read).rest = lines-short input short ∙ ap (λ b. (cut b).lines ++ last_line (cut b).rest) all in
      let both = subst AreReading lines reads in
      keeps-then first now new result (u.stays (reading-first (cut u.read).lines (last_line (cut u.read).rest) both)) (call (reading-next (cut u.read).lines (last_line (cut u.read).rest) both))

  module _ (piece next : List ℕ) (new : World) (is : left ≡ piece ++ next) where
    -- a piece was acted on, as far as it is within what a script may have
    pub untouched-piece : {T : Type 0} (result : Result T Ended) → taken ≤ 268435456 → (AreReading (cut ((cut u.read).rest ++ take (268435456 - taken) piece)).lines → KeepsImage now new result) → AreReading (script_lines input) → KeepsImage first new result
    untouched-piece result few call reads =
        let part = take (268435456 - taken) piece in
        let after = drop (268435456 - taken) piece ++ next in
        let came : input ≡ (u.read ++ part) ++ after = u.came ∙ ap (λ r. u.read ++ r) (parts-came piece left next (268435456 - taken) is) ∙ sym (append_assoc u.read part after) in
        let short : length (u.read ++ part) ≤ input_max = omega (arith, length-append u.read part, u.count, input_max-is, length-take_most (268435456 - taken) piece) in
        let whole = lines-front input (u.read ++ part) after came short in
        let lines = reading-first (cut (u.read ++ part)).lines whole.0 (subst AreReading whole.1 reads) in
        let both : AreReading ((cut u.read).lines ++ (cut ((cut u.read).rest ++ part)).lines) = subst AreReading (cut-more u.read part) lines in
        keeps-then first now new result (u.stays (reading-first (cut u.read).lines (cut ((cut u.read).rest ++ part)).lines both)) (call (reading-next (cut u.read).lines (cut ((cut u.read).rest ++ part)).lines both))

    -- and the script goes on
    pub untouched-fed : {T : Type 0} (longer : List ℕ) (after : ℕ) (result : Result T Ended) → longer ≡ kept (cut ((cut u.read).rest ++ piece)).rest → after ≤ 268435456 → after ≡ taken + length piece
        → (AreReading (cut ((cut u.read).rest ++ take (268435456 - taken) piece)).lines → KeepsImage now new result) → Untouched input next first new longer after
    untouched-fed longer after result keeps few counts call =
        let whole : take (268435456 - taken) piece ≡ piece = take_all (268435456 - taken) piece (omega arith) in
        record {
          read = u.read ++ piece;
          came = u.came ∙ ap (λ r. u.read ++ r) is ∙ sym (append_assoc u.read piece next);
          count = length-append u.read piece ∙ ap (λ n. n + length piece) u.count ∙ sym counts;
          keeps = keeps ∙ ap (λ (c : Cut). kept c.rest) (sym (cut-append u.read piece));
          stays = λ reads.
              let both : AreReading ((cut u.read).lines ++ (cut ((cut u.read).rest ++ piece)).lines) = subst AreReading (cut-more u.read piece) reads in
              let behind = reading-next (cut u.read).lines (cut ((cut u.read).rest ++ piece)).lines both in
              (call (subst (λ (part : List ℕ). AreReading (cut ((cut u.read).rest ++ part)).lines) (sym whole) behind)).seen ∙ u.stays (reading-first (cut u.read).lines (cut ((cut u.read).rest ++ piece)).lines both);
        }
