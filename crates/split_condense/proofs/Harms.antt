-- Which damage taking an entry out is refused for, and what a path that leads down by the pages' bytes rules out.
use Rattle.std.proofs.Common.{◌≡◌, ℕ, zero, suc, ◌<◌, ◌≤◌, ◌++◌, ◌∷◌, [], true, List, length, slice_index, Option, Ok, IsErr, true≢false, Some, None, arith, sym, ap, ◌∙◌, subst, inl, inr, ⊎_elim}
use Rattle.std.proofs.lemmas.Bool.{cases_lt}
use Rattle.page_face.specs.FreeList.{PageMap}
use Rattle.page_face.specs.Causes.{IsUncounted, unlinked}
use Rattle.page_face.specs.declared.fault.Rule.{Rule}
use Rattle.page_face.specs.declared.fault.Rule.TheVariants.{Kind, Fill, Head, Link, Order, Spare, Level, Value, Shared, Rect, Row, Entry, Words, Counts}
use Rattle.page_face.specs.declared.fault.Damage.{Damage}
use Rattle.page_face.specs.declared.fault.PageFault.{PageFault}
use Rattle.page_face.specs.declared.fault.PageFault.TheVariants.{Damaged}
use Rattle.btree_nodes.specs.Damages.{AskedSince}
use Rattle.btree_nodes.proofs.Harms.{asked-here}
use Rattle.rtree_nodes.specs.Slots.{Item, got, one}
use Rattle.rtree_nodes.proofs.Outs.{at-same}
use Rattle.rtree_nodes.specs.Breaks.{BreaksFirst, BreaksHeader}
use Rattle.rtree_nodes.specs.Pages.{level_in, stored_in, slots_in, is_form}
use Rattle.rtree_nodes.proofs.Formed.{form-slots, stored-past}
use Rattle.rtree_nodes.specs.Ways.{IsWay}
use Rattle.irtree_shape.specs.Damages.{BreaksAnywhere, IsBroken, IsTreeHarm}
use Rattle.irtree_shape.proofs.Harms.{broken-link, broken-read}
use Rattle.split_condense.specs.Orphans.{IsHeadless, IsMisplaced, IsOffPath}
use Rattle.split_condense.proofs.Forms.{some-none}

-- the first rule of a node's page that a page breaks, it breaks wherever it stands
first-anywhere : (rule : Rule) (page : List ℕ) → BreaksFirst rule page → BreaksAnywhere rule page
first-anywhere Kind page h = h
first-anywhere Fill page h = inl h
first-anywhere Spare page h = h.2
first-anywhere Value page h = h.3
first-anywhere Head page h = absurd h
first-anywhere Link page h = absurd h
first-anywhere Order page h = absurd h
first-anywhere Level page h = absurd h
first-anywhere Shared page h = absurd h
first-anywhere Rect page h = absurd h
first-anywhere Row page h = absurd h
first-anywhere Entry page h = absurd h
first-anywhere Words page h = absurd h
first-anywhere Counts page h = absurd h

-- so it does the rule that its first bytes break
header-anywhere : (rule : Rule) (page : List ℕ) → BreaksHeader rule page → BreaksAnywhere rule page
header-anywhere Kind page h = h
header-anywhere Fill page h = inl h
header-anywhere Head page h = absurd h
header-anywhere Link page h = absurd h
header-anywhere Order page h = absurd h
header-anywhere Spare page h = absurd h
header-anywhere Level page h = absurd h
header-anywhere Value page h = absurd h
header-anywhere Shared page h = absurd h
header-anywhere Rect page h = absurd h
header-anywhere Row page h = absurd h
header-anywhere Entry page h = absurd h
header-anywhere Words page h = absurd h
header-anywhere Counts page h = absurd h

-- and `Fill` is what an inner node of one child breaks
lone-anywhere : (rule : Rule) (page : List ℕ) → rule ≡ Fill → BreaksAnywhere Fill page → BreaksAnywhere rule page
lone-anywhere rule page e h = subst (λ (r : Rule). BreaksAnywhere r page) (sym e) h

-- a page that is asked for now, of pages that are as they were
module _ (rows : ℕ) (old new : PageMap) (c0 c1 first : ℕ) (before after : List ℕ) (page : ℕ) (damage : Damage) (same : new ≡ old) (counted : c1 ≡ c0) (asked : after ≡ before ++ page ∷ []) where
  page-harm : damage.page ≡ page → IsBroken damage.rule old c0 page → IsTreeHarm new c1 first rows before after damage
  page-harm is broken = inl (record {
    asked = subst (λ (n : ℕ). AskedSince before after n) (sym is) (asked-here before after page asked);
    breaks = inl (subst (λ (n : ℕ). IsBroken damage.rule new c1 n) (sym is)
        (subst (λ (p : PageMap). IsBroken damage.rule p c1 page) (sym same) (subst (λ (k : ℕ). IsBroken damage.rule old k page) (sym counted) broken)));
  })

  -- it isn't counted
  pub link-harm : damage ≡ unlinked page → IsUncounted c0 page → IsTreeHarm new c1 first rows before after damage
  link-harm is uncounted = page-harm (ap (λ (d : Damage). d.page) is) (broken-link damage.rule old c0 page (ap (λ (d : Damage). d.rule) is) uncounted)

  -- it doesn't say that it is a node's
  pub head-harm : (bytes : List ℕ) → (0 < length (old page) → bytes ≡ old page) → IsHeadless page bytes (Damaged damage) → IsTreeHarm new c1 first rows before after damage
  head-harm bytes is h = page-harm h.0 (broken-read damage.rule old c0 page bytes is (header-anywhere damage.rule bytes h.1))

  -- it isn't a node's, or that of an inner node of one child, where it is of the level that is asked
  pub node-harm : (level : ℕ) (bytes : List ℕ) → bytes ≡ old page → level_in (old page) ≡ level → IsMisplaced page level bytes (Damaged damage) → IsTreeHarm new c1 first rows before after damage
  node-harm level bytes is right h =
      let broken : BreaksAnywhere damage.rule bytes → IsTreeHarm new c1 first rows before after damage
      = λ b. page-harm h.0 (broken-read damage.rule old c0 page bytes (λ some. is) b) in
      elim h.1 [
        | inl breaks ↦ broken (first-anywhere damage.rule bytes breaks)
        | inr other ↦ elim other [
          | inl wrong ↦ absurd (wrong.1 (ap level_in is ∙ right))
          | inr lone ↦ broken (lone-anywhere damage.rule bytes lone.0 (inr lone.1))
        ]
      ]

-- a page that was lent is counted
pub looked-counted : (count page : ℕ) → (IsUncounted count page → IsErr {T = Unit {0}} {E = PageFault} (Ok tt)) → IsUncounted count page → ⊥
looked-counted count page refused uncounted = true≢false (sym (refused uncounted))

-- a page that a path leads through is of its level
pub way-level : (pages : PageMap) (path : List ℕ) (level page : ℕ) → IsWay pages path level page → level_in (pages page) ≡ level
way-level pages path zero page h = h.0
way-level pages path (suc level) page h = h.0

-- an item is stored in one of the 32 slots
stored-within : (page : List ℕ) (at : ℕ) (y : Item) → stored_in page at ≡ Some y → at < 32
stored-within page at y e = ⊎_elim (λ (l : at < 32). l) (λ (past : 32 ≤ at). absurd (some-none (stored_in page at) y e (stored-past page at past))) (cases_lt at 32)

-- its slot there is used
way-used : (pages : PageMap) (path : List ℕ) (level page : ℕ) → IsWay pages path level page → (slice_index path level < 32) × (stored_in (pages page) (slice_index path level) ≡ None → ⊥)
way-used pages path zero page h = (h.1.0, λ e. let a = ap (got one) e in let b = h.1.1 in omega arith)
way-used pages path (suc level) page h =
    (stored-within (pages page) (slice_index path (suc level)) h.2.item h.2.is, λ e. some-none (stored_in (pages page) (slice_index path (suc level))) h.2.item h.2.is e)

-- so it isn't refused for its slot
pub way-on : (pages : PageMap) (path : List ℕ) (level page at : ℕ) (bytes : List ℕ) (damage : Damage) → IsWay pages path level page → bytes ≡ pages page → is_form bytes ≡ true → at ≡ slice_index path level
    → IsOffPath page at bytes (Damaged damage) → ⊥
way-on pages path level page at bytes damage way is form at_is h =
    let used = way-used pages path level page way in
    used.1 (ap (λ (b : List ℕ). stored_in b (slice_index path level)) (sym is) ∙ ap (stored_in bytes) (sym at_is) ∙ sym (ap (λ (s : ℕ → Option Item). s at) (form-slots bytes form)) ∙ h.1 (omega (arith, used.0)) form)

-- the child in it is on the path, too
pub way-child : (pages : PageMap) (path : List ℕ) (level l page at : ℕ) (bytes : List ℕ) (c : Item) (child : ℕ) → IsWay pages path level page → level ≡ suc l → bytes ≡ pages page → is_form bytes ≡ true
    → at ≡ slice_index path level → slots_in bytes at ≡ Some c → c.to ≡ child → IsWay pages path l child
way-child pages path level l page at bytes c child way up is form at_is there to =
    let way' : IsWay pages path (suc l) page = subst (λ (k : ℕ). IsWay pages path k page) up way in
    let here : stored_in (pages page) (slice_index path (suc l)) ≡ Some c =
    ap (λ (b : List ℕ). stored_in b (slice_index path (suc l))) (sym is) ∙ ap (stored_in bytes) (sym (at_is ∙ ap (slice_index path) up)) ∙ sym (ap (λ (s : ℕ → Option Item). s at) (form-slots bytes form)) ∙ there in
    subst (λ (k : ℕ). IsWay pages path l k) (sym way'.2.to_is ∙ at-same way'.2.item c _ way'.2.is here ∙ to) way'.3
