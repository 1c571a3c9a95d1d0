-- What one more call does to the world of a station in memory.
use Rattle.std.proofs.Common.{◌≡◌, ◌⊎◌, inl, inr, ⊎_elim, ℕ, zero, suc, ◌+◌, ◌-◌, ◌<◌, ◌≤◌, Bool, true, false, cond, ◌&&◌, nat_le, nat_lt, List, [], ◌∷◌, ◌++◌, length, slice_index, refl, sym, ◌∙◌, ap, subst, arith, Result, Ok, Err, OnOk, OnErr, Vec, length-append}
use Rattle.std.proofs.lemmas.Bool.{cases_Bool, cond-true, cond-false, and_from, and_left, and_right, le-leb, lt-ltb, le-ltb, lt-leb, cases_lt}
use Rattle.std.proofs.lemmas.List.{append-nil}
use mathlib.Core.Path.{fun_ext}
use Rattle.std.specs.declared.alloc.Global.{Global}
use Rattle.disk_model.specs.declared.disk.Area.{Area}
use Rattle.disk_model.specs.declared.disk.Area.TheVariants.{Pages, Journal}
use Rattle.disk_model.specs.declared.disk.Failed.{Failed}
use Rattle.disk_model.specs.declared.call.Call.{Call}
use Rattle.disk_model.specs.declared.call.Call.TheVariants as calls
use Rattle.disk_model.specs.World.{Image, Range, Torn, TornFrom, Written, Reads, Elapses, Nothing, HasRead, HasWritten, HasSynced, HasSaid}
use Rattle.disk_model.specs.Stored.{Put}
use Rattle.disk_model.specs.Replay.{same_area, covers, IsFree, State, MayLeave, overwritten, others, range_of, step, replay, During, Since, reads_in, world_of, counts_now}

pub replay-more : (st : State) (made : List Call) (call : Call) → replay st (made ++ call ∷ []) ≡ step (replay st made) call
replay-more st [] call = refl
replay-more st (c ∷ made) call = replay-more (step st c) made call

-- right before a call is within it
before_within : (st : State) (call : Call) (image : Image) → MayLeave st image → During st call image st.said
before_within st (calls.Read area at len) image may = (may, refl)
before_within st (calls.Write area at bytes done) image may = (λ a i free. may a i free.1, refl)
before_within st (calls.Sync area done) image may = (may, refl)
before_within st (calls.Say piece taken) image may = (may, (0, sym (append-nil st.said)))

pub since_keeps : (st : State) (t : ℕ) (made : List Call) (call : Call) (image : Image) (said : List ℕ) → t ≤ length made → Since st t made image said → Since st t (made ++ call ∷ []) image said
since_keeps st zero [] call image said le left = inl (subst (λ (s : List ℕ). During st call image s) (sym left.1) (before_within st call image left.0))
since_keeps st (suc t) [] call image said le left = absurd (omega arith)
since_keeps st zero (c ∷ made) call image said le left = ⊎_elim (λ during. inl during) (λ later. inr (since_keeps (step st c) zero made call image said (omega arith) later)) left
since_keeps st (suc t) (c ∷ made) call image said le left = since_keeps (step st c) t made call image said (omega arith) left

-- what may have left since, with one more call
abbrev pub OneMore : State → Call → Image → List ℕ → Type 0
OneMore st call image said = During st call image said ⊎ (MayLeave (step st call) image × (said ≡ (step st call).said))

pub since_more : (st : State) (t : ℕ) (made : List Call) (call : Call) (image : Image) (said : List ℕ) → t ≤ length made → Since st t (made ++ call ∷ []) image said
    → Since st t made image said ⊎ OneMore (replay st made) call image said
since_more st zero [] call image said le left = inr left
since_more st (suc t) [] call image said le left = absurd (omega arith)
since_more st zero (c ∷ made) call image said le left =
    ⊎_elim (λ during. inl (inl during)) (λ later. ⊎_elim (λ l. inl (inr l)) (λ r. inr r) (since_more (step st c) zero made call image said (omega arith) later)) left
since_more st (suc t) (c ∷ made) call image said le left = since_more (step st c) t made call image said (omega arith) left

reads_more : (made : List Call) (call : Call) → reads_in (made ++ call ∷ []) ≡ reads_in made ++ reads_in (call ∷ [])
reads_more [] call = refl
reads_more (calls.Read area at len ∷ made) call = ap (λ (l : List Range). range_of area at len ∷ l) (reads_more made call)
reads_more (calls.Write area at bytes done ∷ made) call = reads_more made call
reads_more (calls.Sync area done ∷ made) call = reads_more made call
reads_more (calls.Say piece taken ∷ made) call = reads_more made call

-- ---- ranges

same_self : (area : Area) → same_area area area ≡ true
same_self Pages = refl
same_self Journal = refl

pub same_true : (a b : Area) → same_area a b ≡ true → b ≡ a
same_true Pages Pages e = refl
same_true Journal Journal e = refl
same_true Pages Journal e = cc
same_true Journal Pages e = cc

covers_out : (area a : Area) (at len i : ℕ) → (a ≡ area → (i < at) ⊎ (at + len ≤ i)) → covers (range_of area at len) a i ≡ false
covers_out area a at len i out =
    let low = nat_le at i in
    let high = nat_lt i (at + len) in
    let not_both : a ≡ area → (low && high) ≡ false = λ e. ⊎_elim (λ (l : i < at). and_left low high (lt-leb at i l)) (λ (h : at + len ≤ i). and_right low high (le-ltb i (at + len) h)) (out e) in
    ⊎_elim
    (λ (t : same_area area a ≡ true). and_right (same_area area a) (low && high) (not_both (same_true area a t)))
    (λ (f : same_area area a ≡ false). and_left (same_area area a) (low && high) f)
    (cases_Bool (same_area area a))

covers_in : (area : Area) (at len i : ℕ) → at ≤ i → i < at + len → covers (range_of area at len) area i ≡ true
covers_in area at len i low high = and_from _ _ (same_self area) (and_from _ _ (le-leb at i low) (lt-ltb i (at + len) high))

pub others_free : (area : Area) (i : ℕ) (ranges : List Range) → IsFree (others area ranges) area i
others_free area i [] = tt
others_free area i (r ∷ ranges) = ⊎_elim
    (λ (t : same_area r.area area ≡ true). subst (λ (l : List Range). IsFree l area i) (sym (cond-true _ _ _ t)) (others_free area i ranges))
    (λ (f : same_area r.area area ≡ false). subst (λ (l : List Range). IsFree l area i) (sym (cond-false _ _ _ f)) (and_left _ _ f, others_free area i ranges))
    (cases_Bool (same_area r.area area))

others_fewer : (area a : Area) (i : ℕ) (ranges : List Range) → IsFree ranges a i → IsFree (others area ranges) a i
others_fewer area a i [] free = tt
others_fewer area a i (r ∷ ranges) free = ⊎_elim
    (λ (t : same_area r.area area ≡ true). subst (λ (l : List Range). IsFree l a i) (sym (cond-true _ _ _ t)) (others_fewer area a i ranges free.1))
    (λ (f : same_area r.area area ≡ false). subst (λ (l : List Range). IsFree l a i) (sym (cond-false _ _ _ f)) (free.0, others_fewer area a i ranges free.1))
    (cases_Bool (same_area r.area area))

-- the range joins those that are pending
abbrev torn_state : Range → State → State
torn_state r st = record st { pending = r ∷ st.pending }

torn_from : (st : State) (area : Area) (at len : ℕ) (image : Image) → MayLeave (torn_state (range_of area at len) st) image → TornFrom area at len (MayLeave st) image
torn_from st area at len image may =
    let r = range_of area at len in
    record {
      old = λ a i. cond (covers r a i) (st.seen a i) (image a i);
      may = λ a i free. ⊎_elim
          (λ (t : covers r a i ≡ true). cond-true _ _ _ t)
          (λ (f : covers r a i ≡ false). cond-false _ _ _ f ∙ may a i (f, free))
          (cases_Bool (covers r a i));
      torn = record { same = λ a i out. sym (cond-false _ _ _ (covers_out area a at len i out)) };
    }

written_over : (image : Image) (area : Area) (at : ℕ) (bytes : List ℕ) → Written area at bytes image (overwritten (range_of area at (length bytes)) bytes image)
written_over image area at bytes = record {
  torn = record { same = λ a i out. cond-false _ _ _ (covers_out area a at (length bytes) i out) };
  inside = λ i j lt is. cond-true _ _ _ (covers_in area at (length bytes) j (omega arith) (omega arith)) ∙ ap (λ (k : ℕ). slice_index bytes k) (omega arith);
}

-- after a write, the written range is pending
after_write : (st : State) (area : Area) (at : ℕ) (bytes : Vec ℕ Global) (done : Bool) (image : Image) → MayLeave (step st (calls.Write area at bytes done)) image
    → MayLeave (torn_state (range_of area at (length bytes.items)) st) image
after_write st area at bytes true image may a i free = may a i free ∙ cond-false _ _ _ free.0
after_write st area at bytes false image may a i free = may a i free

torn_refl : (area : Area) (at len : ℕ) (image : Image) → Torn area at len image image
torn_refl area at len image = record { same = λ a i out. refl }

pub on_ok_from : {T E P : Type 0} (r : Result T E) → P → OnOk r P
on_ok_from (Ok x) p = p
on_ok_from (Err e) p = tt

on_err_from : {T E P : Type 0} (r : Result T E) → P → OnErr r P
on_err_from (Ok x) p = tt
on_err_from (Err e) p = p

-- ---- one more call, or none

module _ (first : State) (made : List Call) (f g f2 g2 : ℕ) where
  st : State
  st = replay first made

  pub elapses : (call : Call) (P : Image → List ℕ → Type 0) → ((image : Image) (said : List ℕ) → OneMore (replay first made) call image said → (MayLeave (replay first made) image × (said ≡ (replay first made).said)) ⊎ P image said)
      → Elapses (world_of first made f g) (world_of first (made ++ call ∷ []) f2 g2) P
  elapses call P within = record {
    adds = record {
      later = omega (arith, length-append made (call ∷ []));
      each = λ t image said le left. ⊎_elim inl
          (λ more. ⊎_elim (λ was. inl (subst (λ (s : List ℕ). Since first t made image s) (sym was.1) (counts_now first t made image was.0))) inr (within image said more))
          (since_more first t made call image said le left);
    };
    keeps = λ t image said le left. since_keeps first t made call image said le left;
  }

  pub idles : (P : Image → List ℕ → Type 0) → Elapses (world_of first made f g) (world_of first made f2 g2) P
  idles P = record { adds = record { later = omega arith; each = λ t image said le left. inl left }; keeps = λ t image said le left. left }

  pub has_read : {T : Type 0} (area : Area) (at len : ℕ) (bytes : List ℕ) (result : Result T Failed) → length bytes ≡ len → OnOk result (Reads area at bytes (replay first made).seen)
      → HasRead area at bytes (world_of first made f g) (world_of first (made ++ calls.Read area at len ∷ []) f2 g2) result
  has_read area at len bytes result long gives =
      let call = calls.Read area at len in
      let one : replay first (made ++ call ∷ []) ≡ replay first made = replay-more first made call in
      let reads : reads_in (made ++ call ∷ []) ≡ reads_in made ++ range_of area at (length bytes) ∷ [] =
      reads_more made call ∙ ap (λ (n : ℕ). reads_in made ++ range_of area at n ∷ []) (sym long) in
      record {
        rests = record {
          seen = ap (λ (s : State). s.seen) one;
          crash = λ image may. subst (λ (s : State). MayLeave s image) one may;
          time = elapses call Nothing (λ image said more. ⊎_elim inl inl more);
        };
        said = ap (λ (s : State). s.said) one;
        taken = on_ok_from result reads;
        taken_err = on_err_from result (inr reads);
        gives = gives;
      }

  pub has_read_none : {T : Type 0} (area : Area) (at : ℕ) (bytes : List ℕ) (e : Failed) → HasRead {T = T} area at bytes (world_of first made f g) (world_of first made f2 g2) (Err e)
  has_read_none area at bytes e = record {
    rests = record { seen = refl; crash = λ image may. may; time = idles Nothing };
    said = refl;
    taken = tt;
    taken_err = inl refl;
    gives = tt;
  }

  pub has_written : {T : Type 0} (area : Area) (at : ℕ) (bytes : Vec ℕ Global) (x : T)
      → HasWritten area at bytes.items (world_of first made f g) (world_of first (made ++ calls.Write area at bytes true ∷ []) f2 g2) (Ok x)
  has_written area at bytes x =
      let call = calls.Write area at bytes true in
      let one : replay first (made ++ call ∷ []) ≡ step (replay first made) call = replay-more first made call in
      let w = written_over (replay first made).seen area at bytes.items in
      let over : Written area at bytes.items (replay first made).seen (replay first (made ++ call ∷ [])).seen = subst (λ (s : State). Written area at bytes.items (replay first made).seen s.seen) (sym one) w in
      record {
        written = over;
        torn = over.torn;
        said = ap (λ (s : State). s.said) one;
        reads = reads_more made call ∙ append-nil (reads_in made);
        crash = λ image may. torn_from (replay first made) area at (length bytes.items) image (after_write (replay first made) area at bytes true image (subst (λ (s : State). MayLeave s image) one may));
        time = elapses call _ (λ image said more. ⊎_elim
            (λ d. inr (torn_from (replay first made) area at (length bytes.items) image d.0, d.1))
            (λ d. inr (torn_from (replay first made) area at (length bytes.items) image (after_write (replay first made) area at bytes true image d.0), d.1))
            more);
      }

  pub has_torn : {T : Type 0} (area : Area) (at : ℕ) (bytes : Vec ℕ Global) (e : Failed)
      → HasWritten {T = T} area at bytes.items (world_of first made f g) (world_of first (made ++ calls.Write area at bytes false ∷ []) f2 g2) (Err e)
  has_torn area at bytes e =
      let call = calls.Write area at bytes false in
      let one : replay first (made ++ call ∷ []) ≡ step (replay first made) call = replay-more first made call in
      record {
        written = tt;
        torn = subst (λ (s : State). Torn area at (length bytes.items) (replay first made).seen s.seen) (sym one) (torn_refl area at (length bytes.items) (replay first made).seen);
        said = ap (λ (s : State). s.said) one;
        reads = reads_more made call ∙ append-nil (reads_in made);
        crash = λ image may. torn_from (replay first made) area at (length bytes.items) image (subst (λ (s : State). MayLeave s image) one may);
        time = elapses call _ (λ image said more. ⊎_elim
            (λ d. inr (torn_from (replay first made) area at (length bytes.items) image d.0, d.1))
            (λ d. inr (torn_from (replay first made) area at (length bytes.items) image d.0, d.1))
            more);
      }

  pub has_written_none : {T : Type 0} (area : Area) (at : ℕ) (bytes : List ℕ) (e : Failed) → HasWritten {T = T} area at bytes (world_of first made f g) (world_of first made f2 g2) (Err e)
  has_written_none area at bytes e = record {
    written = tt;
    torn = torn_refl area at (length bytes) (replay first made).seen;
    said = refl;
    reads = refl;
    crash = λ image may. record { old = image; may = may; torn = torn_refl area at (length bytes) image };
    time = idles _;
  }

  pub has_synced : {T : Type 0} (area : Area) (x : T) → HasSynced area (world_of first made f g) (world_of first (made ++ calls.Sync area true ∷ []) f2 g2) (Ok x)
  has_synced area x =
      let call = calls.Sync area true in
      let one : replay first (made ++ call ∷ []) ≡ step (replay first made) call = replay-more first made call in
      let fewer : (image : Image) → MayLeave (step (replay first made) call) image → MayLeave (replay first made) image = λ image may a i free. may a i (others_fewer area a i (replay first made).pending free) in
      record {
        rests = record {
          seen = ap (λ (s : State). s.seen) one;
          crash = λ image may. fewer image (subst (λ (s : State). MayLeave s image) one may);
          time = elapses call Nothing (λ image said more. ⊎_elim inl (λ d. inl (fewer image d.0, d.1)) more);
        };
        said = ap (λ (s : State). s.said) one;
        reads = reads_more made call ∙ append-nil (reads_in made);
        durable = λ image may. fun_ext (λ i.
            (subst (λ (s : State). MayLeave s image) one may) area i (others_free area i (replay first made).pending) ∙ sym (ap (λ (s : State). s.seen area i) one));
      }

  pub has_not_synced : {T : Type 0} (area : Area) (e : Failed) → HasSynced {T = T} area (world_of first made f g) (world_of first (made ++ calls.Sync area false ∷ []) f2 g2) (Err e)
  has_not_synced area e =
      let call = calls.Sync area false in
      let one : replay first (made ++ call ∷ []) ≡ step (replay first made) call = replay-more first made call in
      record {
        rests = record {
          seen = ap (λ (s : State). s.seen) one;
          crash = λ image may. subst (λ (s : State). MayLeave s image) one may;
          time = elapses call Nothing (λ image said more. ⊎_elim inl inl more);
        };
        said = ap (λ (s : State). s.said) one;
        reads = reads_more made call ∙ append-nil (reads_in made);
        durable = tt;
      }

  pub has_synced_none : {T : Type 0} (area : Area) (e : Failed) → HasSynced {T = T} area (world_of first made f g) (world_of first made f2 g2) (Err e)
  has_synced_none area e = record {
    rests = record { seen = refl; crash = λ image may. may; time = idles Nothing };
    said = refl;
    reads = refl;
    durable = tt;
  }

  pub has_said : (piece : Vec ℕ Global) (n : ℕ) → HasSaid piece.items (world_of first made f g) (world_of first (made ++ calls.Say piece n ∷ []) f2 g2) (Ok n)
  has_said piece n =
      let call = calls.Say piece n in
      let one : replay first (made ++ call ∷ []) ≡ step (replay first made) call = replay-more first made call in
      record {
        seen = ap (λ (s : State). s.seen) one;
        reads = reads_more made call ∙ append-nil (reads_in made);
        said = ap (λ (s : State). s.said) one;
        said_err = tt;
        crash = λ image may. subst (λ (s : State). MayLeave s image) one may;
        time = elapses call _ (λ image said more. ⊎_elim (λ d. inr d) (λ d. inr (d.0, (n, d.1))) more);
      }

  pub has_not_said : (piece : Vec ℕ Global) (e : Failed) → HasSaid piece.items (world_of first made f g) (world_of first (made ++ calls.Say piece 0 ∷ []) f2 g2) (Err e)
  has_not_said piece e =
      let call = calls.Say piece 0 in
      let one : replay first (made ++ call ∷ []) ≡ step (replay first made) call = replay-more first made call in
      record {
        seen = ap (λ (s : State). s.seen) one;
        reads = reads_more made call ∙ append-nil (reads_in made);
        said = tt;
        said_err = (0, ap (λ (s : State). s.said) one);
        crash = λ image may. subst (λ (s : State). MayLeave s image) one may;
        time = elapses call _ (λ image said more. ⊎_elim (λ d. inr d) (λ d. inr (d.0, (0, d.1))) more);
      }

  pub has_said_none : (piece : List ℕ) (e : Failed) → HasSaid piece (world_of first made f g) (world_of first made f2 g2) (Err e)
  has_said_none piece e = record {
    seen = refl;
    reads = refl;
    said = tt;
    said_err = (0, sym (append-nil (replay first made).said));
    crash = λ image may. may;
    time = idles _;
  }

-- ---- the same, for what the code has in its hands

pub seen_after : (first : State) (made later : List Call) (call : Call) (seen : Image) → later ≡ made ++ call ∷ [] → (step (replay first made) call).seen ≡ seen → (replay first later).seen ≡ seen
seen_after first made later call seen is same = ap (λ (l : List Call). (replay first l).seen) is ∙ ap (λ (s : State). s.seen) (replay-more first made call) ∙ same

pub said_after : (first : State) (made later : List Call) (call : Call) (said : List ℕ) → later ≡ made ++ call ∷ [] → (step (replay first made) call).said ≡ said → (replay first later).said ≡ said
said_after first made later call said is same = ap (λ (l : List Call). (replay first l).said) is ∙ ap (λ (s : State). s.said) (replay-more first made call) ∙ same

pub seen_same : (first : State) (made later : List Call) (seen : Image) → later ≡ made → (replay first made).seen ≡ seen → (replay first later).seen ≡ seen
seen_same first made later seen is same = ap (λ (l : List Call). (replay first l).seen) is ∙ same

pub said_same : (first : State) (made later : List Call) (said : List ℕ) → later ≡ made → (replay first made).said ≡ said → (replay first later).said ≡ said
said_same first made later said is same = ap (λ (l : List Call). (replay first l).said) is ∙ same

module _ (first : State) (made later : List Call) (f g f2 g2 : ℕ) where
  pub read_noted : {T : Type 0} (area : Area) (at len : ℕ) (bytes : List ℕ) (result : Result T Failed) → later ≡ made ++ calls.Read area at len ∷ [] → length bytes ≡ len → OnOk result (Reads area at bytes (replay first made).seen)
      → HasRead area at bytes (world_of first made f g) (world_of first later f2 g2) result
  read_noted area at len bytes result is long gives =
      subst (λ (l : List Call). HasRead area at bytes (world_of first made f g) (world_of first l f2 g2) result) (sym is) (has_read first made f g f2 g2 area at len bytes result long gives)

  pub read_lost : {T : Type 0} (area : Area) (at : ℕ) (bytes : List ℕ) (e : Failed) → later ≡ made → HasRead {T = T} area at bytes (world_of first made f g) (world_of first later f2 g2) (Err e)
  read_lost {T = T} area at bytes e is =
      subst (λ (l : List Call). HasRead {T = T} area at bytes (world_of first made f g) (world_of first l f2 g2) (Err e)) (sym is) (has_read_none first made f g f2 g2 area at bytes e)

  pub write_done : {T : Type 0} (area : Area) (at : ℕ) (bytes : List ℕ) (copy : Vec ℕ Global) (done : Bool) (x : T) → later ≡ made ++ calls.Write area at copy done ∷ [] → copy.items ≡ bytes → done ≡ true
      → HasWritten area at bytes (world_of first made f g) (world_of first later f2 g2) (Ok x)
  write_done area at bytes copy done x is same held =
      subst (λ (l : List Call). HasWritten area at bytes (world_of first made f g) (world_of first l f2 g2) (Ok x)) (sym (is ∙ ap (λ (b : Bool). made ++ calls.Write area at copy b ∷ []) held))
      (subst (λ (bs : List ℕ). HasWritten area at bs (world_of first made f g) (world_of first (made ++ calls.Write area at copy true ∷ []) f2 g2) (Ok x)) same (has_written first made f g f2 g2 area at copy x))

  pub write_torn : {T : Type 0} (area : Area) (at : ℕ) (bytes : List ℕ) (copy : Vec ℕ Global) (done : Bool) (e : Failed) → later ≡ made ++ calls.Write area at copy done ∷ [] → copy.items ≡ bytes → done ≡ false
      → HasWritten {T = T} area at bytes (world_of first made f g) (world_of first later f2 g2) (Err e)
  write_torn {T = T} area at bytes copy done e is same held =
      subst (λ (l : List Call). HasWritten {T = T} area at bytes (world_of first made f g) (world_of first l f2 g2) (Err e)) (sym (is ∙ ap (λ (b : Bool). made ++ calls.Write area at copy b ∷ []) held))
      (subst (λ (bs : List ℕ). HasWritten {T = T} area at bs (world_of first made f g) (world_of first (made ++ calls.Write area at copy false ∷ []) f2 g2) (Err e)) same (has_torn first made f g f2 g2 area at copy e))

  pub write_lost : {T : Type 0} (area : Area) (at : ℕ) (bytes : List ℕ) (e : Failed) → later ≡ made → HasWritten {T = T} area at bytes (world_of first made f g) (world_of first later f2 g2) (Err e)
  write_lost {T = T} area at bytes e is =
      subst (λ (l : List Call). HasWritten {T = T} area at bytes (world_of first made f g) (world_of first l f2 g2) (Err e)) (sym is) (has_written_none first made f g f2 g2 area at bytes e)

  pub sync_done : {T : Type 0} (area : Area) (done : Bool) (x : T) → later ≡ made ++ calls.Sync area done ∷ [] → done ≡ true → HasSynced area (world_of first made f g) (world_of first later f2 g2) (Ok x)
  sync_done area done x is held =
      subst (λ (l : List Call). HasSynced area (world_of first made f g) (world_of first l f2 g2) (Ok x)) (sym (is ∙ ap (λ (b : Bool). made ++ calls.Sync area b ∷ []) held)) (has_synced first made f g f2 g2 area x)

  pub sync_failed : {T : Type 0} (area : Area) (done : Bool) (e : Failed) → later ≡ made ++ calls.Sync area done ∷ [] → done ≡ false → HasSynced {T = T} area (world_of first made f g) (world_of first later f2 g2) (Err e)
  sync_failed {T = T} area done e is held =
      subst (λ (l : List Call). HasSynced {T = T} area (world_of first made f g) (world_of first l f2 g2) (Err e)) (sym (is ∙ ap (λ (b : Bool). made ++ calls.Sync area b ∷ []) held)) (has_not_synced first made f g f2 g2 area e)

  pub sync_lost : {T : Type 0} (area : Area) (e : Failed) → later ≡ made → HasSynced {T = T} area (world_of first made f g) (world_of first later f2 g2) (Err e)
  sync_lost {T = T} area e is =
      subst (λ (l : List Call). HasSynced {T = T} area (world_of first made f g) (world_of first l f2 g2) (Err e)) (sym is) (has_synced_none first made f g f2 g2 area e)

  pub say_done : (piece : List ℕ) (copy : Vec ℕ Global) (n : ℕ) → later ≡ made ++ calls.Say copy n ∷ [] → copy.items ≡ piece → HasSaid piece (world_of first made f g) (world_of first later f2 g2) (Ok n)
  say_done piece copy n is same =
      subst (λ (l : List Call). HasSaid piece (world_of first made f g) (world_of first l f2 g2) (Ok n)) (sym is)
      (subst (λ (bs : List ℕ). HasSaid bs (world_of first made f g) (world_of first (made ++ calls.Say copy n ∷ []) f2 g2) (Ok n)) same (has_said first made f g f2 g2 copy n))

  pub say_failed : (piece : List ℕ) (copy : Vec ℕ Global) (e : Failed) → later ≡ made ++ calls.Say copy 0 ∷ [] → copy.items ≡ piece → HasSaid piece (world_of first made f g) (world_of first later f2 g2) (Err e)
  say_failed piece copy e is same =
      subst (λ (l : List Call). HasSaid piece (world_of first made f g) (world_of first l f2 g2) (Err e)) (sym is)
      (subst (λ (bs : List ℕ). HasSaid bs (world_of first made f g) (world_of first (made ++ calls.Say copy 0 ∷ []) f2 g2) (Err e)) same (has_not_said first made f g f2 g2 copy e))

  pub say_lost : (piece : List ℕ) (e : Failed) → later ≡ made → HasSaid piece (world_of first made f g) (world_of first later f2 g2) (Err e)
  say_lost piece e is = subst (λ (l : List Call). HasSaid piece (world_of first made f g) (world_of first l f2 g2) (Err e)) (sym is) (has_said_none first made f g f2 g2 piece e)

-- ---- what the areas hold after a write

put_at : (area : Area) (at i : ℕ) (bytes old new : List ℕ) → Put at bytes old new → slice_index new i ≡ cond (covers (range_of area at (length bytes)) area i) (slice_index bytes (i - at)) (slice_index old i)
put_at area at i bytes old new p =
    let out : (i < at) ⊎ (at + length bytes ≤ i) → covers (range_of area at (length bytes)) area i ≡ false = λ o. covers_out area area at (length bytes) i (λ e. o) in
    ⊎_elim
    (λ (l : i < at). p.below i l ∙ sym (cond-false _ _ _ (out (inl l))))
    (λ (h : at ≤ i). ⊎_elim
    (λ (l : i < at + length bytes). p.inside i h l ∙ sym (cond-true _ _ _ (covers_in area at (length bytes) i h l)))
    (λ (g : at + length bytes ≤ i). p.above i g ∙ sym (cond-false _ _ _ (out (inr g))))
    (cases_lt i (at + length bytes)))
    (cases_lt i at)

-- ---- a station that was just made

-- with no call made and nothing pending at first, a crash leaves what reads give
pub safe_at_first : (first : State) (made : List Call) → made ≡ [] → first.pending ≡ [] → (image : Image) → MayLeave (replay first made) image → image ≡ (replay first made).seen
safe_at_first first made none settled =
    let at_first : (image : Image) → MayLeave first image → image ≡ first.seen = λ image may. fun_ext (λ a. fun_ext (λ i.
    may a i (subst (λ (l : List Range). IsFree l a i) (sym settled) tt))) in
    subst (λ (l : List Call). (image : Image) → MayLeave (replay first l) image → image ≡ (replay first l).seen) (sym none) at_first
