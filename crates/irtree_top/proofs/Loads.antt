-- What a crash leaves of a load.
use Rattle.std.proofs.Common.{◌≡◌, ℕ, ◌+◌, ◌%◌, ◌<◌, ◌≤◌, ◌^◌, ◌==◌, ◌&&◌, ◌⊎◌, ⊎_elim, Bool, true, false, List, [], ◌∷◌, ◌++◌, length, take, inl, inr, refl, sym, ap, subst, ◌∙◌, arith, append_assoc}
use Rattle.std.proofs.lemmas.Bool.{leb-true, leb-false}
use Rattle.std.proofs.lemmas.Fmt.{decimal_by_steps_wide}
use Rattle.std.proofs.lemmas.List.{append-nil, length-append}
use Rattle.std.proofs.lemmas.List.Sums.{fold-append}
use Rattle.std.proofs.Math.Nat.{add-mod_left, mod_self, zero-mod}
use Rattle.std.proofs.Math.Seq.{take-append-add, take-append_seam}
use Rattle.std.specs.Prelude.{nat_le, if◌then◌else◌, fold, codes, decimal, is_none, Result, Ok, Err}
use Rattle.disk_model.specs.World.{Image}
use Rattle.place_values.specs.State.{Contents, place_at}
use Rattle.place_values.specs.Update.{effect_of, key_for, refuses}
use Rattle.place_values.specs.declared.update.Applied.{Applied}
use Rattle.place_values.specs.declared.update.Update.{Update}
use Rattle.place_values.specs.declared.update.Update.TheVariants.{Put, Remove}
use Rattle.place_values.specs.declared.update.UpdateFault.{UpdateFault}
use Rattle.place_values.specs.declared.update.UpdateFault.TheVariants.{Full, Worn}
use Rattle.geojson_points.specs.Takes.{Item, Placed, Skipped}
use Rattle.geojson_points.specs.declared.taken.SkipReason.{SkipReason}
use Rattle.geojson_points.specs.declared.taken.SkipReason.TheVariants as reasons
use Rattle.store_model.specs.Stands.{Stands}
use Rattle.irtree_engine.specs.Updates.{accepted, state_after_all}
use Rattle.run_outcome.specs.Left.{LeftBySteps, LeftByBatch}
use Rattle.run_outcome.specs.Load.{Closing, Step, Skip, Store, steps, load, stores, put_of, reason_text, says_loaded, skip_line, stored_line, loaded_line}
use Rattle.load_run.specs.Making.{made_line, says_made}
use Rattle.run_outcome.specs.Said.{SaysFrontOf}
use Rattle.run_outcome.specs.Script.{Cut, cut}
use Rattle.irtree_top.specs.Acked.{number_of_digits, stored_in, acked_by_load}
use Rattle.irtree_top.specs.Prefix.{state_after_updates, HoldsAcked, IsNearInLoad}
use Rattle.irtree_top.proofs.Cuts.{in_line, in_line-append, cut-line, lines-append, lines-front}
use Rattle.irtree_top.proofs.Replies.{decimal-in}

-- ---- what lines acknowledge

-- the number in the last line `stored N`, and where there is none what came before
abbrev acked_from : ℕ → List ℕ → ℕ
acked_from stored spoken = fold stored_in stored (cut spoken).lines

-- the text is a line and LF
record IsLine (text line : List ℕ) : Type 0 where
  within : in_line line ≡ true
  is : text ≡ line ++ 10 ∷ []

-- it is cut into the line
line-cut : (text line : List ℕ) → IsLine text line → cut text ≡ record { lines = line ∷ []; rest = [] }
line-cut text line is = ap cut is.is ∙ cut-line line is.within

-- the first of one line are none or it
one-front : (xs more : List (List ℕ)) (line : List ℕ) → line ∷ [] ≡ xs ++ more → (xs ≡ []) ⊎ (xs ≡ line ∷ [])
one-front [] more line is = inl refl
one-front (x ∷ []) more line is = inr (ap (take 1) (sym is))
one-front (x ∷ y ∷ xs) more line is = absurd (let longer : 1 ≡ length (x ∷ y ∷ (xs ++ more)) = ap length is in omega arith)

-- a front of it acknowledges what came before or what it does
acked-front : (text line : List ℕ) → IsLine text line → (stored n : ℕ) → (acked_from stored (take n text) ≡ stored) ⊎ (acked_from stored (take n text) ≡ stored_in stored line)
acked-front text line is stored n =
    let front = lines-front n text in ⊎_elim
    (λ none. inl (ap (fold stored_in stored) none))
    (λ whole. inr (ap (fold stored_in stored) whole))
    (one-front (cut (take n text)).lines front.0 line (ap (λ (c : Cut). c.lines) (sym (line-cut text line is)) ∙ front.1))

-- what is behind it goes on from what it acknowledges
acked-behind : (text line : List ℕ) → IsLine text line → (stored : ℕ) (spoken : List ℕ) → acked_from stored (text ++ spoken) ≡ acked_from (stored_in stored line) spoken
acked-behind text line is stored spoken =
    let c = line-cut text line is in
    ap (fold stored_in stored) (lines-append text spoken (ap (λ (d : Cut). d.rest) c) ∙ ap (λ (d : Cut). d.lines ++ (cut spoken).lines) c)

-- ---- the lines of a load

-- the words of the reasons are within a line
reason-in : (reason : SkipReason) → in_line (reason_text reason) ≡ true
reason-in reasons.NotFeature = refl
reason-in reasons.NoGeometry = refl
reason-in reasons.NotPoint = refl
reason-in reasons.BadPosition = refl
reason-in reasons.OutOfRange = refl
reason-in reasons.BadId = refl

-- a line that acknowledges nothing
pub record IsPassed (text : List ℕ) : Type 0 where
  line : List ℕ
  is : IsLine text line
  passed : (stored : ℕ) → stored_in stored line ≡ stored

-- the line of an item that is passed over
skip-passed : (index : ℕ) (reason : SkipReason) → IsPassed (skip_line index reason)
unfolding skip_line
skip-passed index reason = record {
  line = codes "skip " ++ (decimal index ++ (32 ∷ reason_text reason));
  is = record {
    within = in_line-append (decimal index) (32 ∷ reason_text reason) (decimal-in index) (reason-in reason);
    is = ap (λ text. codes "skip " ++ text) (sym (append_assoc (decimal index) (32 ∷ reason_text reason) (10 ∷ [])));
  };
  passed = λ stored. refl;
}

-- the last line of a load
pub loaded-passed : (state : Contents) (stored skipped : ℕ) → IsPassed (says_loaded state stored skipped)
unfolding loaded_line
loaded-passed state stored skipped = record {
  line = codes "loaded " ++ (decimal stored ++ (codes " skipped " ++ decimal skipped));
  is = record {
    within = in_line-append (decimal stored) (codes " skipped " ++ decimal skipped) (decimal-in stored) (decimal-in skipped);
    is = ap (λ text. codes "loaded " ++ text) (sym (append_assoc (decimal stored) (codes " skipped " ++ decimal skipped) (10 ∷ [])));
  };
  passed = λ before. refl;
}

-- a line of four numbers
line-of-made : (count queries hits cost : ℕ) → IsPassed (made_line count queries hits cost)
unfolding made_line
line-of-made count queries hits cost =
    let end : List ℕ = 10 ∷ [] in
    let sum : List ℕ = codes " hits sum " ++ decimal cost in
    let found : List ℕ = codes " queries " ++ (decimal hits ++ sum) in
    let asked : List ℕ = codes " places " ++ (decimal queries ++ found) in
    record {
      line = codes "made " ++ (decimal count ++ asked);
      is = record {
        within = in_line-append (decimal count) asked (decimal-in count) (in_line-append (decimal queries) found (decimal-in queries) (in_line-append (decimal hits) sum (decimal-in hits) (decimal-in cost)));
        is = ap (λ t. codes "made " ++ (decimal count ++ (codes " places " ++ (decimal queries ++ (codes " queries " ++ t))))) (sym (append_assoc (decimal hits) sum end))
            ∙ ap (λ t. codes "made " ++ (decimal count ++ (codes " places " ++ t))) (sym (append_assoc (decimal queries) found end))
            ∙ ap (λ t. codes "made " ++ t) (sym (append_assoc (decimal count) asked end));
      };
      passed = λ before. refl;
    }

-- the last line of a make
pub made-passed : (seed count : ℕ) (state : Contents) (stored skipped : ℕ) → IsPassed (says_made seed count state stored skipped)
unfolding says_made
made-passed seed count state stored skipped = line-of-made count _ _ _

-- a number is read again
number-decimal : (n : ℕ) → n < 10 ^ 64 → number_of_digits (decimal n) ≡ n
number-decimal = decimal_by_steps_wide (λ n ds. number_of_digits ds ≡ n) (λ n small. omega arith)
    (λ n ds big is. fold-append _ 0 ds ((48 + n % 10) ∷ []) ∙ rw is (omega arith))

-- the line of a number, and what it acknowledges
stored-is : (n : ℕ) → IsLine (stored_line n) (codes "stored " ++ decimal n)
unfolding stored_line
stored-is n = record { within = decimal-in n; is = refl }

-- such a line acknowledges its number
stored-acked : (stored n : ℕ) → n < 10 ^ 64 → stored_in stored (codes "stored " ++ decimal n) ≡ n
stored-acked stored n small = number-decimal n small

-- ---- the batches

-- each update is a Put
abbrev IsPut : Update → Type 0
IsPut (Put key point words label) = Unit {0}
IsPut (Remove key) = ⊥

-- each of the updates is
abbrev ArePuts : List Update → Type 0
ArePuts [] = Unit {0}
ArePuts (update ∷ updates) = IsPut update × ArePuts updates

-- so it is with one more
puts-push : (updates : List Update) (update : Update) → ArePuts updates → IsPut update → ArePuts (updates ++ update ∷ [])
puts-push [] update are is = (is, tt)
puts-push (first ∷ updates) update are is = (are.0, puts-push updates update are.1 is)

-- each batch has so many Puts, or it is the last step and has no more
abbrev AreBatches : ℕ → List Step → Type 0
AreBatches batch [] = Unit {0}
AreBatches batch (Skip index reason ∷ rest) = AreBatches batch rest
AreBatches batch (Store updates ∷ rest) = ArePuts updates × (((length updates ≡ batch) × AreBatches batch rest) ⊎ ((length updates ≤ batch) × (rest ≡ [])))

-- the steps of a load have such batches
steps-batches : (batch : ℕ) → 1 ≤ batch → (waiting : List Update) (items : List Item) → ArePuts waiting → length waiting < batch → AreBatches batch (steps batch waiting items)
unfolding steps
steps-batches batch some [] [] puts less = tt
steps-batches batch some (update ∷ waiting) [] puts less = (puts, inr (omega arith, refl))
steps-batches batch some waiting (Skipped index reason ∷ items) puts less = steps-batches batch some waiting items puts less
steps-batches batch some waiting (Placed place ∷ items) puts less =
    let more = puts-push waiting (put_of place) puts tt in
    let longer : length (waiting ++ put_of place ∷ []) ≡ length waiting + 1 = length-append waiting (put_of place ∷ []) in
    split more longer (steps-batches batch some [] items tt (omega arith)) (λ fewer. steps-batches batch some (waiting ++ put_of place ∷ []) items more fewer) (nat_le batch (length waiting + 1)) refl
  where
    split : ArePuts (waiting ++ put_of place ∷ []) → length (waiting ++ put_of place ∷ []) ≡ length waiting + 1 → AreBatches batch (steps batch [] items)
        → (length (waiting ++ put_of place ∷ []) < batch → AreBatches batch (steps batch (waiting ++ put_of place ∷ []) items)) → (full : Bool) → nat_le batch (length waiting + 1) ≡ full
        → AreBatches batch (if full then Store (waiting ++ put_of place ∷ []) ∷ steps batch [] items else steps batch (waiting ++ put_of place ∷ []) items)
    split more longer anew on true is = (more, inl (omega (arith, leb-true batch (length waiting + 1) is), anew))
    split more longer anew on false is = on (omega (arith, leb-false batch (length waiting + 1) is))

-- ---- the state after a batch

-- the update number rises by one where the update is accepted
abbrev RaisesWhere : Result Applied UpdateFault → Contents → Contents → Type 0
RaisesWhere (Ok applied) old new = new.number ≡ old.number + 1
RaisesWhere (Err fault) old new = Unit {0}

-- each Put does so
raises : (state : Contents) (update : Update) → IsPut update → RaisesWhere (effect_of state update).answer state (effect_of state update).state
raises state (Put key point words label) is =
    split (nat_le 1000000 (length state.places) && is_none (place_at (key_for state key) state.places)) (state.number == 2 ^ 40) _ _ _
  where
    split : (full worn : Bool) (places : _) (serial : ℕ) (applied : Applied)
        → RaisesWhere (if full then refuses state Full else if worn then refuses state Worn else record { state = record { places = places; serial = serial; number = state.number + 1 }; answer = Ok applied }).answer state
        (if full then refuses state Full else if worn then refuses state Worn else record { state = record { places = places; serial = serial; number = state.number + 1 }; answer = Ok applied }).state
    split true worn places serial applied = tt
    split false true places serial applied = tt
    split false false places serial applied = refl
raises state (Remove key) is = absurd is

-- where all updates are accepted the state is that after them, and its number has risen by one for each
abbrev IsAfter : Contents → List Update → Result Contents UpdateFault → Type 0
IsAfter state updates (Ok after) = (state_after_updates state updates ≡ after) × (after.number ≡ state.number + length updates)
IsAfter state updates (Err fault) = Unit {0}

-- each list of Puts does so
all-after : (state : Contents) (updates : List Update) → ArePuts updates → IsAfter state updates (state_after_all state updates)
all-after state [] puts = (refl, omega arith)
all-after state (update ∷ updates) puts =
    split (effect_of state update).answer (state_after_all (effect_of state update).state updates) (raises state update puts.0) (all-after (effect_of state update).state updates puts.1)
  where
    split : (answer : Result Applied UpdateFault) (outcome : Result Contents UpdateFault) → RaisesWhere answer state (effect_of state update).state → IsAfter (effect_of state update).state updates outcome
        → IsAfter state (update ∷ updates) (accepted answer outcome)
    split (Err fault) outcome rose after = tt
    split (Ok applied) (Err fault) rose after = tt
    split (Ok applied) (Ok state_after) rose after = (after.0, omega arith)

-- no state that an image stands for has had more updates
stands-number : (image : Image) (state : Contents) → Stands image state → state.number ≤ 2 ^ 40
stands-number image state stands =
    let number : state.number ≡ stands.contents.block.head.number = ap (λ (s : Contents). s.number) stands.stand.is in
    omega (arith, stands.stand.tables.range.number)

-- ---- step by step

-- Of a load that goes on after so many places: as `HoldsAcked`, with those counted, and the update number of its start has not passed the last.
record HoldsFrom (batch stored : ℕ) (start : Contents) (changes : List Update) (before : List ℕ) (image : Image) (said : List ℕ) : Type 0 where
  spoken : List ℕ
  is : said ≡ before ++ spoken
  some : ℕ
  most : some ≤ length changes
  stands : Stands image (state_after_updates start (take some changes))
  acknowledged : acked_from stored spoken ≤ stored + some
  near : stored + some ≤ acked_from stored spoken + batch
  whole : (some % batch ≡ 0) ⊎ (some ≡ length changes)
  number : start.number ≤ 2 ^ 40

module _ (batch : ℕ) (state : Contents) (stored : ℕ) (changes : List Update) (before : List ℕ) (image : Image) (said : List ℕ) where
  -- nothing was said, and the image stands for the state at the start
  none-held : Stands image state → said ≡ before → HoldsFrom batch stored state changes before image said
  none-held stands is = record {
    spoken = [];
    is = is ∙ sym (append-nil before);
    some = 0;
    most = omega arith;
    stands = stands;
    acknowledged = omega arith;
    near = omega arith;
    whole = inl (zero-mod batch);
    number = stands-number image state stands;
  }

  -- a front of a line that acknowledges nothing was said
  front-held : (text : List ℕ) → IsPassed text → Stands image state → SaysFrontOf text before said → HoldsFrom batch stored state changes before image said
  front-held text passed stands says =
      let acked : acked_from stored (take says.0 text) ≡ stored = ⊎_elim (λ e. e) (λ e. e ∙ passed.passed stored) (acked-front text passed.line passed.is stored says.0) in
      record {
        spoken = take says.0 text;
        is = says.1;
        some = 0;
        most = omega arith;
        stands = stands;
        acknowledged = omega (arith, acked);
        near = omega (arith, acked);
        whole = inl (zero-mod batch);
        number = stands-number image state stands;
      }

  -- such a line was said whole
  passed-held : (text : List ℕ) → IsPassed text → HoldsFrom batch stored state changes (before ++ text) image said → HoldsFrom batch stored state changes before image said
  passed-held text passed later =
      let acked : acked_from stored (text ++ later.spoken) ≡ acked_from stored later.spoken = acked-behind text passed.line passed.is stored later.spoken ∙ ap (λ n. acked_from n later.spoken) (passed.passed stored) in
      record {
        spoken = text ++ later.spoken;
        is = later.is ∙ append_assoc before text later.spoken;
        some = later.some;
        most = later.most;
        stands = later.stands;
        acknowledged = omega (arith, acked, later.acknowledged);
        near = omega (arith, acked, later.near);
        whole = later.whole;
        number = later.number;
      }

  -- ---- a batch that is accepted

  module _ (updates : List Update) (after : Contents) (gives : IsAfter state updates (Ok after)) (counted : stored ≤ state.number) where
    -- a front of its line was said
    batch-held : length updates ≤ batch → (length updates ≡ batch) ⊎ (length changes ≡ 0) → Stands image after → SaysFrontOf (stored_line (stored + length updates)) before said
        → HoldsFrom batch stored state (updates ++ changes) before image said
    batch-held fits whole stands says =
        let number : after.number ≤ 2 ^ 40 = stands-number image after stands in
        let last : ℕ = stored + length updates in
        let acked : (acked_from stored (take says.0 (stored_line last)) ≡ stored) ⊎ (acked_from stored (take says.0 (stored_line last)) ≡ last) = ⊎_elim
        (λ e. inl e) (λ e. inr (e ∙ stored-acked stored last (omega (arith, gives.1))))
        (acked-front (stored_line last) (codes "stored " ++ decimal last) (stored-is last) stored says.0) in
        record {
          spoken = take says.0 (stored_line last);
          is = says.1;
          some = length updates;
          most = omega (arith, length-append updates changes);
          stands = subst (Stands image) (sym (ap (state_after_updates state) (take-append_seam updates changes) ∙ gives.0)) stands;
          acknowledged = elim acked [ inl e ↦ omega arith | inr e ↦ omega arith ];
          near = elim acked [ inl e ↦ omega arith | inr e ↦ omega arith ];
          whole = ⊎_elim (λ e. inl (ap (λ n. n % batch) e ∙ mod_self batch)) (λ e. inr (omega (arith, length-append updates changes))) whole;
          number = omega (arith, gives.1);
        }

    -- its line was said whole
    later-held : length updates ≤ batch → (length updates ≡ batch) ⊎ (length changes ≡ 0)
        → HoldsFrom batch (stored + length updates) after changes (before ++ stored_line (stored + length updates)) image said
        → HoldsFrom batch stored state (updates ++ changes) before image said
    later-held fits whole later =
        let last : ℕ = stored + length updates in
        let acked : acked_from stored (stored_line last ++ later.spoken) ≡ acked_from last later.spoken =
        acked-behind (stored_line last) (codes "stored " ++ decimal last) (stored-is last) stored later.spoken
        ∙ ap (λ n. acked_from n later.spoken) (stored-acked stored last (omega (arith, gives.1, later.number))) in
        record {
          spoken = stored_line last ++ later.spoken;
          is = later.is ∙ append_assoc before (stored_line last) later.spoken;
          some = length updates + later.some;
          most = omega (arith, length-append updates changes, later.most);
          stands = subst (Stands image)
              (sym (ap (state_after_updates state) (take-append-add updates changes later.some) ∙ fold-append _ state updates (take later.some changes)
              ∙ ap (λ s. state_after_updates s (take later.some changes)) gives.0)) later.stands;
          acknowledged = omega (arith, acked, later.acknowledged);
          near = omega (arith, acked, later.near);
          whole = ⊎_elim
              (λ full. ⊎_elim
              (λ e. inl (ap (λ n. (n + later.some) % batch) full ∙ add-mod_left batch later.some ∙ e))
              (λ e. inr (omega (arith, length-append updates changes)))
              later.whole)
              (λ none. inr (omega (arith, length-append updates changes, later.most)))
              whole;
          number = omega (arith, gives.1, later.number);
        }

-- no step changes nothing
load-none : (closing : Closing) (state : Contents) (stored skipped : ℕ) → length (load closing state stored skipped []).turn.changes ≡ 0
unfolding load
load-none closing state stored skipped = refl

module _ (closing : Closing) (batch : ℕ) (updates : List Update) (rest : List Step) (are : AreBatches batch (Store updates ∷ rest)) (state : Contents) (stored skipped : ℕ) where
  -- the number behind the batch
  abbrev last : ℕ
  last = stored + length updates

  -- what is changed behind the batch, from a state
  abbrev behind : Contents → List Update
  behind after = (load closing after last skipped rest).turn.changes

  -- the batch has no more updates than a batch may
  fits : length updates ≤ batch
  fits = elim are.1 [ inl full ↦ omega (arith, full.0) | inr end ↦ end.0 ]

  -- what is behind it are batches
  rest-batches : AreBatches batch rest
  rest-batches = elim are.1 [ inl full ↦ full.1 | inr end ↦ subst (AreBatches batch) (sym end.1) tt ]

  -- it is a whole one, or nothing is changed behind it
  whole : (after : Contents) → (length updates ≡ batch) ⊎ (length (behind after) ≡ 0)
  whole after = elim are.1 [
    | inl full ↦ inl full.0
    | inr end ↦ inr (ap (λ (r : List Step). length (load closing after last skipped r).turn.changes) end.1 ∙ load-none closing after last skipped)
  ]

  module _ (before : List ℕ) (image : Image) (said : List ℕ) (counted : stored ≤ state.number)
      (go : (after : Contents) → last ≤ after.number → LeftBySteps closing after last skipped rest (before ++ stored_line last) image said
      → HoldsFrom batch last after (behind after) (before ++ stored_line last) image said) where
    -- A crash left what it may around the batch, which comes to this outcome.
    batch-left : (outcome : Result Contents UpdateFault) → IsAfter state updates outcome
        → LeftByBatch state updates stored outcome (λ after. LeftBySteps closing after last skipped rest) before image said
        → HoldsFrom batch stored state (stores state updates (stored_line last) outcome (λ after. load closing after last skipped rest)).turn.changes before image said
    batch-left (Err fault) gives left = none-held batch state stored [] before image said left.0 left.1
    batch-left (Ok after) gives (inl (inl left)) = none-held batch state stored (updates ++ behind after) before image said left.0 left.1
    batch-left (Ok after) gives (inl (inr left)) =
        batch-held batch state stored (behind after) before image said updates after gives counted fits (whole after) left.0 left.1
    batch-left (Ok after) gives (inr left) =
        later-held batch state stored (behind after) before image said updates after gives counted fits (whole after) (go after (omega (arith, gives.1)) left)

-- What is said last acknowledges nothing.
abbrev pub ClosesSo : Closing → Type 0
ClosesSo closing = (state : Contents) (stored skipped : ℕ) → IsPassed (closing state stored skipped)

-- Whatever a crash leaves of steps, so it is.
steps-held : (closing : Closing) → ClosesSo closing → (batch : ℕ) (steps : List Step) → AreBatches batch steps → (state : Contents) (stored skipped : ℕ) (before : List ℕ) (image : Image) (said : List ℕ) → stored ≤ state.number
    → LeftBySteps closing state stored skipped steps before image said → HoldsFrom batch stored state (load closing state stored skipped steps).turn.changes before image said
unfolding load
steps-held closing closes batch [] are state stored skipped before image said counted left =
    front-held batch state stored [] before image said (closing state stored skipped) (closes state stored skipped) left.0 left.1
steps-held closing closes batch (Skip index reason ∷ rest) are state stored skipped before image said counted (inl left) =
    front-held batch state stored _ before image said (skip_line index reason) (skip-passed index reason) left.0 left.1
steps-held closing closes batch (Skip index reason ∷ rest) are state stored skipped before image said counted (inr left) =
    passed-held batch state stored _ before image said (skip_line index reason) (skip-passed index reason)
    (steps-held closing closes batch rest are state stored (skipped + 1) (before ++ skip_line index reason) image said counted left)
steps-held closing closes batch (Store updates ∷ rest) are state stored skipped before image said counted left =
    batch-left closing batch updates rest are state stored skipped before image said counted
    (λ after more later. steps-held closing closes batch rest (rest-batches closing batch updates rest are state stored skipped) after (stored + length updates) skipped (before ++ stored_line (stored + length updates)) image said more later)
    (state_after_all state updates) (all-after state updates are.0) left

-- Whatever a crash leaves of a load, the last `stored N` that was said acknowledges a prefix of its places, and the image stands for the map
-- after that prefix, or after at most a batch more; and in whole batches, but for the last.
pub load-prefix : (closing : Closing) → ClosesSo closing → (batch : ℕ) → 1 ≤ batch → (start : Contents) (items : List Item) (before : List ℕ) (image : Image) (said : List ℕ)
    → LeftBySteps closing start 0 0 (steps batch [] items) before image said
    → HoldsAcked acked_by_load (IsNearInLoad batch) start (load closing start 0 0 (steps batch [] items)).turn.changes before image said
load-prefix closing closes batch positive start items before image said left =
    let held = steps-held closing closes batch (steps batch [] items) (steps-batches batch positive [] items tt (omega arith)) start 0 0 before image said (omega arith) left in
    record {
      spoken = held.spoken;
      is = held.is;
      some = held.some;
      most = held.most;
      stands = held.stands;
      acknowledged = omega (arith, held.acknowledged);
      near = (omega (arith, held.near), held.whole);
    }
