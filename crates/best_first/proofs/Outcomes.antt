-- Results, and what damage says.
use Rattle.std.proofs.Common.{◌≡◌, ◌⊎◌, ℕ, ◌<◌, List, length, false, Vec, Global, Result, Ok, Err, inl, inr, ⊎_elim, sym, ap, subst, ◌∙◌, arith}
use Rattle.std.specs.Prelude.{IfOk, IfErr, IsErrOf}
use Rattle.page_face.specs.FreeList.{PageMap}
use Rattle.page_face.specs.declared.fault.Damage.{Damage}
use Rattle.page_face.specs.declared.fault.Rule.{Rule}
use Rattle.page_face.specs.declared.fault.Rule.TheVariants.{Head, Link, Kind, Fill, Order, Spare, Level, Value, Shared, Rect, Row, Entry, Words, Counts}
use Rattle.page_face.specs.declared.fault.PageFault.{PageFault}
use Rattle.page_face.specs.declared.fault.PageFault.TheVariants.{Disk, NoRoom, Stopped, Damaged, Memory}
use Rattle.btree_nodes.specs.Damages.{AskedSince}
use Rattle.btree_nodes.proofs.Walks.{same-fault}
use Rattle.rtree_nodes.specs.Breaks.{BreaksNode}
use Rattle.rtree_nodes.specs.Pages.{is_form}
use Rattle.rtree_nodes.proofs.Formed.{form-parts}
use Rattle.rtree_nodes.proofs.Laws.{form-bytes as form-told}
use Rattle.rtree_nodes.specs.Harms.{BreaksAlone, BreaksPlace}
use Rattle.rtree_nodes.proofs.Subtrees.{values-form}
use Rattle.best_first.specs.declared.item.Item.{Item}
use Rattle.best_first.specs.Levels.{IsOffLevel}
use Rattle.best_first.specs.NodeOpenings.{IsSoundNode, SaysLevel}
use Rattle.best_first.specs.Harms.{IsHarm}

pub ok-weaker : {X : Type 0} (P Q : X → Type 0) (r : Result X PageFault) → ((x : X) → P x → Q x) → IfOk r P → IfOk r Q
ok-weaker P Q (Ok x) f h = f x h
ok-weaker P Q (Err e) f h = tt

pub ok-three : {X : Type 0} (P Q R S : X → Type 0) (r : Result X PageFault) → ((x : X) → P x → Q x → R x → S x) → IfOk r P → IfOk r Q → IfOk r R → IfOk r S
ok-three P Q R S (Ok x) f p q s = f x p q s
ok-three P Q R S (Err e) f p q s = tt

pub ok-always : {X : Type 0} (P : X → Type 0) (r : Result X PageFault) → ((x : X) → P x) → IfOk r P
ok-always P (Ok x) f = f x
ok-always P (Err e) f = tt

damage_in : Damage → PageFault → Damage
damage_in d (Damaged damage) = damage
damage_in d Disk = d
damage_in d NoRoom = d
damage_in d Stopped = d
damage_in d Memory = d

same-damage : (a b : Damage) → Damaged a ≡ Damaged b → a ≡ b
unfolding damage_in
same-damage a b e = ap (damage_in a) e

-- why gathering is refused
abbrev pub IsGathered : List ℕ → ℕ → PageFault → Type 0
IsGathered bytes node fault = (fault ≡ Memory) ⊎ ((fault ≡ Damaged (record { page = node; rule = Value })) × BreaksNode Value bytes × (is_form bytes ≡ false))

harm-of : (pages : PageMap) (count rows node : ℕ) (old new : List ℕ) (damage : Damage) → damage ≡ record { page = node; rule = Value } → AskedSince old new node → BreaksAlone Value pages count node → IsHarm pages count rows old new damage
harm-of pages count rows node old new damage e there broken =
    subst (λ (d : Damage). IsHarm pages count rows old new d) (sym e) (there, inl (inl broken))

-- a slot that isn't of its form
pub value-harm : (pages : PageMap) (count rows node : ℕ) (old new bytes : List ℕ) (r : Result (Vec Item Global) PageFault) (damage : Damage) → IsErrOf r (Damaged damage) → AskedSince old new node
    → (0 < length (pages node) → bytes ≡ pages node) → IfErr r (IsGathered bytes node) → IsHarm pages count rows old new damage
value-harm pages count rows node old new bytes (Ok x) damage e there told cause = absurd (cc)
value-harm pages count rows node old new bytes (Err fault) damage e there told cause =
    let same : fault ≡ Damaged damage = same-fault {T = Vec Item Global} fault (Damaged damage) e in
    ⊎_elim (λ (m : fault ≡ Memory). absurd (cc))
    (λ d. harm-of pages count rows node old new damage (same-damage damage (record { page = node; rule = Value }) (sym same ∙ d.0)) there
    (λ some. subst (BreaksNode Value) (told some) d.1)) cause

-- a page that breaks a rule by itself, or hasn't the level that it is opened with
pub place-harm : (pages : PageMap) (count rows node level : ℕ) (old new : List ℕ) (damage : Damage) → damage.page ≡ node → AskedSince old new node → BreaksPlace damage.rule pages count node (λ found. found ≡ level → ⊥)
    → IsHarm pages count rows old new damage ⊎ ((damage ≡ record { page = node; rule = Level }) × IsOffLevel SaysLevel pages old new node level)
place-harm pages count rows node level old new damage e there broken =
    ⊎_elim
    (λ alone. inl (subst (AskedSince old new) (sym e) there, inl (inl (subst (BreaksAlone damage.rule pages count) (sym e) alone))))
    (λ at_level. let rule = at_level.0 in inr ((λ i. record { page = e i; rule = rule i }), (there, λ says. at_level.1 says.0 says.1)))
    broken

alone-fine : (rule : Rule) (pages : PageMap) (count node level : ℕ) → IsSoundNode pages count node level → BreaksAlone rule pages count node → ⊥
alone-fine Link pages count node level s b = s.counted b
alone-fine Kind pages count node level s b = let p = form-parts (pages node) s.form in b (form-told (pages node) s.form) p.kind
alone-fine Fill pages count node level s b = let z = (b (form-told (pages node) s.form)).1 in let m = s.some in absurd (omega arith)
alone-fine Value pages count node level s b = let v = values-form (pages node) s.form in let f = b (form-told (pages node) s.form) in cc
alone-fine Head pages count node level s b = b
alone-fine Order pages count node level s b = b
alone-fine Spare pages count node level s b = b
alone-fine Level pages count node level s b = b
alone-fine Shared pages count node level s b = b
alone-fine Rect pages count node level s b = b
alone-fine Row pages count node level s b = b
alone-fine Entry pages count node level s b = b
alone-fine Words pages count node level s b = b
alone-fine Counts pages count node level s b = b

-- a sound node breaks no rule by itself
pub sound-alone : (rule : Rule) (pages : PageMap) (count node level : ℕ) → IsSoundNode pages count node level → BreaksAlone rule pages count node → ⊥
sound-alone rule pages count node level s b = alone-fine rule pages count node level s b

-- nor in its place
pub sound-fine : (rule : Rule) (pages : PageMap) (count node level : ℕ) → IsSoundNode pages count node level → BreaksPlace rule pages count node (λ found. found ≡ level → ⊥) → ⊥
sound-fine rule pages count node level s b =
    ⊎_elim (λ alone. alone-fine rule pages count node level s alone) (λ at_level. at_level.1 (form-told (pages node) s.form) (sym s.level_is)) b
