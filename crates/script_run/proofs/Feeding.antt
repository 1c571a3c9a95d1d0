-- A piece of a script, line by line.
use Rattle.std.proofs.Common.{◌≡◌, ℕ, zero, suc, Bool, List, [], ◌∷◌, ◌++◌, refl, sym, ap, subst, ◌∙◌, arith, append_assoc}
use Rattle.std.specs.Prelude.{Result, Ok, Err, IfErr, IsTrue}
use Rattle.std.proofs.lemmas.List.{append-nil}
use Rattle.disk_model.specs.World.{World}
use Rattle.place_values.specs.State.{Contents}
use Rattle.query_lang.specs.Line.{line_of}
use Rattle.irtree_engine.specs.Holding.{HoldsState}
use Rattle.run_outcome.specs.Reading.{AreReading, IsMetIn, IsReading, KeepsImage}
use Rattle.run_outcome.specs.Script.{Cut, cut, script, last_line}
use Rattle.run_outcome.specs.declared.ended.Ended.{Ended}
use Rattle.run_outcome.specs.declared.ended.Ended.TheVariants as ends
use Rattle.script_run.specs.Feed.{kept, EndsNoLine}
use Rattle.script_run.specs.Lines.{RunsLines}
use Rattle.script_run.proofs.Lines.{cut-none, cut-ended, kept-append, kept-none, kept-nil, line-kept}
use Rattle.script_run.proofs.Reading.{keeps-then, reading-alike, reading-first, reading-next}
use Rattle.script_run.proofs.Runs.{runs-none, runs-lost, runs-goes_on, runs-then, runs-alike}

-- Where a piece stands behind a front: some of its lines were acted on, and rest is left of it.
pub record Feeding (readable : Bool) (front piece line rest : List ℕ) (first now : World) : Type 0 where
  -- the front of the line that has not ended
  pub open_line : List ℕ
  pub ends : EndsNoLine open_line
  pub is : line ≡ kept open_line
  -- the lines so far, and those still to come
  pub done : List (List ℕ)
  pub lines : (cut (front ++ piece)).lines ≡ done ++ (cut (open_line ++ rest)).lines
  pub last : (cut (front ++ piece)).rest ≡ (cut (open_line ++ rest)).rest
  pub runs : IsTrue readable → (state : Contents) → HoldsState first state → RunsLines {T = Unit {0}} state done first now (Ok tt)
  -- where they only read the image stayed
  pub stays : IsTrue readable → AreReading done → now.seen ≡ first.seen

-- none of it was acted on
pub feeding-start : (readable : Bool) (front piece line : List ℕ) (first : World) → EndsNoLine front → line ≡ kept front → Feeding readable front piece line piece first first
feeding-start readable front piece line first ends is = record {
  open_line = front;
  ends = ends;
  is = is;
  done = [];
  lines = refl;
  last = refl;
  runs = λ told state holds. runs-none state first tt holds;
  stays = λ told reads. refl;
}

-- two parts that end no line end none together
both-EndsNoLine : (front part : List ℕ) → EndsNoLine front → EndsNoLine part → EndsNoLine (front ++ part)
both-EndsNoLine [] part h k i l e = k i l e
both-EndsNoLine (byte ∷ front) part h k zero l e = h 0 (omega arith) e
both-EndsNoLine (byte ∷ front) part h k (suc i) l e = both-EndsNoLine front part (λ j b. h (suc j) (omega arith)) k i (omega arith) e

-- the lines of what is left, where a part of it ends a line
cut-line : (front part rest next : List ℕ) → EndsNoLine front → EndsNoLine part → rest ≡ part ++ 10 ∷ next → cut (front ++ rest) ≡ record { lines = (front ++ part) ∷ (cut next).lines; rest = (cut next).rest }
cut-line front part rest next h k is =
    ap (λ r. cut (front ++ r)) is ∙ ap cut (sym (append_assoc front part (10 ∷ next))) ∙ cut-ended (front ++ part) next (both-EndsNoLine front part h k)

-- no line ends in what is left
cut-left : (front rest : List ℕ) → EndsNoLine front → EndsNoLine rest → cut (front ++ rest) ≡ record { lines = []; rest = front ++ rest }
cut-left front rest h k = cut-none (front ++ rest) (both-EndsNoLine front rest h k)

module _ (readable : Bool) (front piece line rest : List ℕ) (first now : World) (f : Feeding readable front piece line rest first now) where
  module _ (part next : List ℕ) (new : World) (is : rest ≡ part ++ 10 ∷ next) (part_ends : EndsNoLine part) where
    -- the lines, where one more was acted on
    lines-line : (cut (front ++ piece)).lines ≡ (f.done ++ (f.open_line ++ part) ∷ []) ++ (cut next).lines
    lines-line = f.lines ∙ ap (λ (c : Cut). f.done ++ c.lines) (cut-line f.open_line part rest next f.ends part_ends is)
        ∙ sym (append_assoc f.done ((f.open_line ++ part) ∷ []) (cut next).lines)

    -- one line was acted on
    pub feeding-line : (value : Unit {0}) (ended : List ℕ) → ended ≡ [] → (IsTrue readable → (state : Contents) → HoldsState now state → RunsLines state ((f.open_line ++ part) ∷ []) now new (Ok value))
        → (IsTrue readable → IsReading (line_of (f.open_line ++ part)) → KeepsImage now new (Ok value)) → Feeding readable front piece ended next first new
    feeding-line value ended none call still = record {
      open_line = [];
      ends = λ i l. absurd (omega arith);
      is = none ∙ kept-nil;
      done = f.done ++ (f.open_line ++ part) ∷ [];
      lines = lines-line;
      last = f.last ∙ ap (λ (c : Cut). c.rest) (cut-line f.open_line part rest next f.ends part_ends is);
      runs = λ told state holds.
          let so_far = f.runs told state holds in
          runs-then state f.done ((f.open_line ++ part) ∷ []) first now new tt so_far (Ok value) (call told (script state f.done).state so_far.holds);
      stays = λ told reads.
          let last = (f.open_line ++ part) ∷ [] in
          (still told (reading-next f.done last reads).0).seen ∙ f.stays told (reading-first f.done last reads);
    }

    -- a line stopped the run
    pub feeding-breaks : (T : Type 0) (end : Ended) → (IsTrue readable → (state : Contents) → HoldsState now state → RunsLines {T = T} state ((f.open_line ++ part) ∷ []) now new (Err end))
        → IsTrue readable → (state : Contents) → HoldsState first state → RunsLines {T = T} state (cut (front ++ piece)).lines first new (Err end)
    feeding-breaks T end call told state holds =
        let so_far = f.runs told state holds in
        let broken : RunsLines {T = T} state (f.done ++ (f.open_line ++ part) ∷ []) first new (Err end) =
        runs-then state f.done ((f.open_line ++ part) ∷ []) first now new tt so_far (Err end) (call told (script state f.done).state so_far.holds) in
        subst (λ (lines : List (List ℕ)). RunsLines {T = T} state lines first new (Err end)) (sym lines-line)
        (runs-goes_on state (f.done ++ (f.open_line ++ part) ∷ []) (cut next).lines first new end broken)

    -- and where the lines only read it left the image
    pub feeding-met : {T : Type 0} (result : Result T Ended) → (IsTrue readable → IsReading (line_of (f.open_line ++ part)) → KeepsImage now new result) → IsTrue readable → AreReading (cut (front ++ piece)).lines → KeepsImage first new result
    feeding-met result still told reads =
        let last = (f.open_line ++ part) ∷ [] in
        let done : AreReading (f.done ++ last) = reading-first (f.done ++ last) (cut next).lines (subst AreReading lines-line reads) in
        keeps-then first now new result (f.stays told (reading-first f.done last done)) (still told (reading-next f.done last done).0)

  module _ (rest_ends : EndsNoLine rest) where
    -- the lines that were acted on are all of them
    lines-all : (cut (front ++ piece)).lines ≡ f.done
    lines-all = f.lines ∙ ap (λ (c : Cut). f.done ++ c.lines) (cut-left f.open_line rest f.ends rest_ends) ∙ append-nil f.done

    -- all lines were acted on, and what is left is kept or finds no memory
    pub feeding-ends : (result : Result (Unit {0}) Ended) → IfErr result (λ end. end ≡ ends.Memory) → IsTrue readable → (state : Contents) → HoldsState first state → RunsLines state (cut (front ++ piece)).lines first now result
    feeding-ends (Ok value) lost told state holds = subst (λ (lines : List (List ℕ)). RunsLines state lines first now (Ok value)) (sym lines-all) (f.runs told state holds)
    feeding-ends (Err end) lost told state holds =
        subst (λ (e : Ended). RunsLines {T = Unit {0}} state (cut (front ++ piece)).lines first now (Err e)) (sym lost)
        (subst (λ (lines : List (List ℕ)). RunsLines {T = Unit {0}} state lines first now (Err ends.Memory)) (sym lines-all) (runs-lost (Unit {0}) state f.done first now tt (f.runs told state holds)))

    -- and where they only read the image stayed
    pub feeding-stays : (result : Result (Unit {0}) Ended) → IfErr result (λ end. end ≡ ends.Memory) → IsTrue readable → AreReading (cut (front ++ piece)).lines → KeepsImage first now result
    feeding-stays (Ok value) lost told reads = record { seen = f.stays told (subst AreReading lines-all reads); met = tt }
    feeding-stays (Err end) lost told reads = record { seen = f.stays told (subst AreReading lines-all reads); met = subst (IsMetIn first.seen) (sym lost) tt }

    -- the line that the piece leaves
    pub feeding-kept : (longer : List ℕ) → longer ≡ kept (line ++ rest) → longer ≡ kept (cut (front ++ piece)).rest
    feeding-kept longer is =
        is ∙ ap (λ l. kept (l ++ rest)) f.is ∙ kept-append f.open_line rest ∙ ap kept (sym (f.last ∙ ap (λ (c : Cut). c.rest) (cut-left f.open_line rest f.ends rest_ends)))

-- ---- the last line

-- bytes behind the last LF are one line
last-line : (bytes : List ℕ) → (bytes ≡ [] → ⊥) → last_line bytes ≡ bytes ∷ []
last-line [] some = absurd (some refl)
last-line (byte ∷ bytes) some = refl

-- no bytes behind the last LF are no line
pub last-none : (state : Contents) (line front : List ℕ) (now : World) → line ≡ [] → line ≡ kept front → HoldsState now state → RunsLines {T = Unit {0}} state (last_line front) now now (Ok tt)
last-none state line front now none is holds =
    subst (λ (bytes : List ℕ). RunsLines {T = Unit {0}} state (last_line bytes) now now (Ok tt)) (sym (kept-none front (sym is ∙ none))) (runs-none state now tt holds)

-- some are a line
pub last-some : {T : Type 0} (state : Contents) (line front : List ℕ) (old new : World) (result : Result T Ended) → (line ≡ [] → ⊥) → line ≡ kept front → RunsLines state (line ∷ []) old new result → RunsLines state (last_line front) old new result
last-some state line front old new result some is runs =
    let one : last_line front ≡ front ∷ [] = last-line front (λ e. some (is ∙ ap kept e ∙ sym kept-nil)) in
    subst (λ (lines : List (List ℕ)). RunsLines state lines old new result) (sym one)
    (runs-alike state line front old new result (ap line_of is ∙ line-kept front) runs)

-- and what is kept of it only reads where it does
pub last-reads : (line front : List ℕ) → (line ≡ [] → ⊥) → line ≡ kept front → AreReading (last_line front) → IsReading (line_of line)
last-reads line front some is reads =
    let one : last_line front ≡ front ∷ [] = last-line front (λ e. some (is ∙ ap kept e ∙ sym kept-nil)) in
    reading-alike line front (ap line_of is ∙ line-kept front) (subst AreReading one reads).0
