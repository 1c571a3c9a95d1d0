-- What a crash leaves by each tear, followed call by call.
use Rattle.std.proofs.Common.{◌≡◌, ⊎_elim, ℕ, ◌+◌, ◌<◌, ◌≤◌, Bool, true, false, cond, ◌&&◌, nat_le, nat_lt, List, [], ◌∷◌, ◌++◌, length, take, get_or, Option, Some, None, refl, sym, ◌∙◌, ap, subst, Vec}
use Rattle.std.proofs.lemmas.Bool.{cases_Bool, cond-true, cond-false, and_left}
use Rattle.std.proofs.lemmas.List.{take_more, take_all}
use mathlib.Core.Path.{fun_ext}
use Rattle.std.specs.declared.alloc.Global.{Global}
use Rattle.disk_model.specs.declared.disk.Area.{Area}
use Rattle.disk_model.specs.declared.call.Call.{Call}
use Rattle.disk_model.specs.declared.call.Call.TheVariants as calls
use Rattle.disk_model.specs.declared.crash.Tear.{Tear}
use Rattle.disk_model.specs.declared.crash.Tear.TheVariants.{Kept, Lost, Filled}
use Rattle.disk_model.specs.World.{Image, Range}
use Rattle.disk_model.specs.Replay.{same_area, covers, IsFree, State, MayLeave, overwritten, with_area, others, range_of, step, replay}
use Rattle.disk_model.specs.Crash.{filled, left_by, torn_by, torn_over}
use Rattle.disk_model.proofs.Replays.{replay-more, same_true, others_free}

-- ---- ranges filled with a byte

-- a place outside of them is as it was
filled_free : (ranges : List Range) (byte : ℕ) (image : Image) (a : Area) (i : ℕ) → IsFree ranges a i → filled ranges byte image a i ≡ image a i
filled_free [] byte image a i free = refl
filled_free (r ∷ ranges) byte image a i free = cond-false _ _ _ free.0 ∙ filled_free ranges byte image a i free.1

-- a place tells of the image only what that holds there
filled_at : (ranges : List Range) (byte : ℕ) (old new : Image) (a : Area) (i : ℕ) → new a i ≡ old a i → filled ranges byte new a i ≡ filled ranges byte old a i
filled_at [] byte old new a i same = same
filled_at (r ∷ ranges) byte old new a i same = ap (λ (b : ℕ). cond (covers r a i) byte b) (filled_at ranges byte old new a i same)

-- in another area the ranges of an area count for nothing
filled_others : (area : Area) (ranges : List Range) (byte : ℕ) (image : Image) (a : Area) (i : ℕ) → same_area area a ≡ false → filled (others area ranges) byte image a i ≡ filled ranges byte image a i
filled_others area [] byte image a i apart = refl
filled_others area (r ∷ ranges) byte image a i apart = ⊎_elim
    (λ (t : same_area r.area area ≡ true).
    let here : same_area r.area a ≡ false = subst (λ (x : Area). same_area x a ≡ false) (same_true r.area area t) apart in
    ap (λ (l : List Range). filled l byte image a i) (cond-true _ _ _ t) ∙ filled_others area ranges byte image a i apart
    ∙ sym (cond-false _ _ _ (and_left (same_area r.area a) (nat_le r.at i && nat_lt i (r.at + r.len)) here)))
    (λ (f : same_area r.area area ≡ false).
    ap (λ (l : List Range). filled l byte image a i) (cond-false _ _ _ f)
    ∙ ap (λ (b : ℕ). cond (covers r a i) byte b) (filled_others area ranges byte image a i apart))
    (cases_Bool (same_area r.area area))

-- a write changes an image at its range alone
kept_by_write : (st : State) (area : Area) (at : ℕ) (bytes : Vec ℕ Global) (done : Bool) (a : Area) (i : ℕ) → covers (range_of area at (length bytes.items)) a i ≡ false
    → (step st (calls.Write area at bytes done)).seen a i ≡ st.seen a i
kept_by_write st area at bytes true a i free = cond-false _ _ _ free
kept_by_write st area at bytes false a i free = refl

-- ---- one call

torn_by_write : (byte : Option ℕ) (st : State) (area : Area) (at : ℕ) (bytes : Vec ℕ Global) (done : Bool)
    → torn_by byte (step st (calls.Write area at bytes done)) ≡ torn_over byte (range_of area at (length bytes.items)) (torn_by byte st)
torn_by_write None st area at bytes done = refl
torn_by_write (Some byte) st area at bytes done =
    let r = range_of area at (length bytes.items) in
    let new = (step st (calls.Write area at bytes done)).seen in
    fun_ext (λ a. fun_ext (λ i. ⊎_elim
    (λ (t : covers r a i ≡ true). cond-true _ _ _ t ∙ sym (cond-true _ _ _ t))
    (λ (f : covers r a i ≡ false). ap (λ (b : ℕ). cond (covers r a i) byte b) (filled_at st.pending byte st.seen new a i (kept_by_write st area at bytes done a i f)))
    (cases_Bool (covers r a i))))

torn_by_sync : (byte : Option ℕ) (st : State) (area : Area) → torn_by byte (step st (calls.Sync area true)) ≡ with_area area st.seen (torn_by byte st)
torn_by_sync None st area = refl
torn_by_sync (Some byte) st area = fun_ext (λ a. fun_ext (λ i. ⊎_elim
    (λ (t : same_area area a ≡ true).
    let free : IsFree (others area st.pending) a i = subst (λ (x : Area). IsFree (others area st.pending) x i) (sym (same_true area a t)) (others_free area i st.pending) in
    filled_free (others area st.pending) byte st.seen a i free ∙ sym (cond-true _ _ _ t))
    (λ (f : same_area area a ≡ false). filled_others area st.pending byte st.seen a i f ∙ sym (cond-false _ _ _ f))
    (cases_Bool (same_area area a))))

-- a write, followed in what is held and in what a crash leaves
pub followed_write : (byte : Option ℕ) (st : State) (call : Call) (area : Area) (at : ℕ) (bytes : Vec ℕ Global) (done : Bool) (held held2 left left2 : Image) → call ≡ calls.Write area at bytes done
    → held2 ≡ cond done (overwritten (range_of area at (length bytes.items)) bytes.items held) held → left2 ≡ torn_over byte (range_of area at (length bytes.items)) left
    → st.seen ≡ held → torn_by byte st ≡ left → ((step st call).seen ≡ held2) × (torn_by byte (step st call) ≡ left2)
followed_write byte st call area at bytes done held held2 left left2 is written torn seen leaves =
    let r = range_of area at (length bytes.items) in
    let new : (step st (calls.Write area at bytes done)).seen ≡ held2 = ap (λ (s : Image). cond done (overwritten r bytes.items s) s) seen ∙ sym written in
    subst (λ (c : Call). ((step st c).seen ≡ held2) × (torn_by byte (step st c) ≡ left2)) (sym is)
    (new, torn_by_write byte st area at bytes done ∙ ap (λ (image : Image). torn_over byte r image) leaves ∙ sym torn)

-- a sync that succeeded, at which what a crash leaves takes the area over from what is held
pub followed_sync : (byte : Option ℕ) (st : State) (call : Call) (area : Area) (done : Bool) (held left left2 : Image) → call ≡ calls.Sync area done → done ≡ true → left2 ≡ with_area area held left
    → st.seen ≡ held → torn_by byte st ≡ left → ((step st call).seen ≡ held) × (torn_by byte (step st call) ≡ left2)
followed_sync byte st call area done held left left2 is is_done taken seen leaves =
    let is_sync : call ≡ calls.Sync area true = is ∙ ap (λ (b : Bool). calls.Sync area b) is_done in
    subst (λ (c : Call). ((step st c).seen ≡ held) × (torn_by byte (step st c) ≡ left2)) (sym is_sync)
    (seen, torn_by_sync byte st area ∙ ap (λ (image : Image). with_area area image (torn_by byte st)) seen ∙ ap (λ (image : Image). with_area area held image) leaves ∙ sym taken)

-- ---- all calls

-- with nothing pending there is nothing to lose or to fill
pub torn_at_first : (byte : Option ℕ) (st : State) → st.pending ≡ [] → st.safe ≡ st.seen → torn_by byte st ≡ st.seen
torn_at_first None st none same = same
torn_at_first (Some byte) st none same = ap (λ (ranges : List Range). filled ranges byte st.seen) none

pub follow_more : (first : State) (made : List Call) (k : ℕ) (call : Call) → k < length made → call ≡ get_or made k call → replay first (take (k + 1) made) ≡ step (replay first (take k made)) call
follow_more first made k call lt is =
    ap (λ (l : List Call). replay first l) (take_more made k call lt ∙ ap (λ (c : Call). take k made ++ c ∷ []) (sym is)) ∙ replay-more first (take k made) call

pub all_followed : (byte : Option ℕ) (first : State) (made : List Call) (k : ℕ) (image : Image) → length made ≤ k → torn_by byte (replay first (take k made)) ≡ image → image ≡ torn_by byte (replay first made)
all_followed byte first made k image le leaves = sym leaves ∙ ap (λ (l : List Call). torn_by byte (replay first l)) (take_all k made le)

-- ---- each tear leaves what a crash may leave

others_back : (area a : Area) (i : ℕ) (ranges : List Range) → same_area area a ≡ false → IsFree (others area ranges) a i → IsFree ranges a i
others_back area a i [] apart free = tt
others_back area a i (r ∷ ranges) apart free = ⊎_elim
    (λ (t : same_area r.area area ≡ true).
    let here : same_area r.area a ≡ false = subst (λ (x : Area). same_area x a ≡ false) (same_true r.area area t) apart in
    (and_left (same_area r.area a) (nat_le r.at i && nat_lt i (r.at + r.len)) here, others_back area a i ranges apart (subst (λ (l : List Range). IsFree l a i) (cond-true _ _ _ t) free)))
    (λ (f : same_area r.area area ≡ false).
    let both : IsFree (r ∷ others area ranges) a i = subst (λ (l : List Range). IsFree l a i) (cond-false _ _ _ f) free in
    (both.0, others_back area a i ranges apart both.1))
    (cases_Bool (same_area r.area area))

-- what is safe may be left, after one more call
safe_more : (st : State) (call : Call) → MayLeave st st.safe → MayLeave (step st call) (step st call).safe
safe_more st (calls.Read area at len) may = may
safe_more st (calls.Write area at bytes done) may = λ a i free. may a i free.1 ∙ sym (kept_by_write st area at bytes done a i free.0)
safe_more st (calls.Sync area false) may = may
safe_more st (calls.Sync area true) may = λ a i free. ⊎_elim
    (λ (t : same_area area a ≡ true). cond-true _ _ _ t)
    (λ (f : same_area area a ≡ false). cond-false _ _ _ f ∙ may a i (others_back area a i st.pending f free))
    (cases_Bool (same_area area a))
safe_more st (calls.Say piece taken) may = may

safe_left : (st : State) (made : List Call) → MayLeave st st.safe → MayLeave (replay st made) (replay st made).safe
safe_left st [] may = may
safe_left st (call ∷ made) may = safe_left (step st call) made (safe_more st call may)

-- what reads gave at first is safe
pub leaves_torn : (tear : Tear) (first : State) (made : List Call) → first.safe ≡ first.seen → MayLeave (replay first made) (left_by tear (replay first made))
leaves_torn Kept first made same = λ a i free. refl
leaves_torn Lost first made same = safe_left first made (λ a i free. ap (λ (image : Image). image a i) same)
leaves_torn (Filled byte) first made same = λ a i free. filled_free (replay first made).pending byte (replay first made).seen a i free
