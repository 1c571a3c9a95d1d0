-- Which damage a search is refused for.
use Rattle.std.proofs.Common.{◌≡◌, ◌⊎◌, ℕ, suc, ◌<◌, List, length, arith, refl, sym, ap, ◌∙◌, subst, ⊎_elim, inl, inr}
use Rattle.std.specs.Prelude.{◌≢◌}
use Rattle.page_face.specs.FreeList.{PageMap}
use Rattle.page_face.specs.declared.fault.Rule.TheVariants.{Level}
use Rattle.page_face.specs.declared.fault.Damage.{Damage}
use Rattle.btree_nodes.specs.Damages.{AskedSince}
use Rattle.btree_nodes.proofs.Harms.{asked-from}
use Rattle.rtree_nodes.specs.Slots.{IsChildAt}
use Rattle.rtree_nodes.specs.Pages.{level_in, stored_in}
use Rattle.rtree_nodes.specs.Harms.{BreaksAlone, BreaksPlace, IfReadable, IsMislevelled, HasWrongLevel, IsHarm}

-- a child's damage
pub harm-child : (pages : PageMap) (count root : ℕ) (before middle after looked : List ℕ) (level l page at child : ℕ) (damage : Damage) → level ≡ suc l → level ≡ level_in looked → (0 < length (pages page) → looked ≡ pages page)
    → IsChildAt (stored_in looked) at child → AskedSince before middle page → AskedSince before after page
    → (damage.page ≡ child) × AskedSince middle after child × BreaksPlace damage.rule pages count child (λ found. found ≢ l) → IsHarm pages count root before after damage
harm-child pages count root before middle after looked level l page at child damage up level_is told kept mid seen d =
    let same : child ≡ damage.page = sym d.0 in
    let mislevelled : IfReadable pages child (λ bytes. level_in bytes ≢ l) → IsMislevelled pages before after child = λ wrong. record {
      parent = page;
      at = at;
      asked = seen;
      names = λ some. subst (λ (b : List ℕ). IsChildAt (stored_in b) at child) (told some) kept;
      level = λ some there e. let a : level ≡ level_in (pages page) = level_is ∙ ap level_in (told some) in wrong there (omega arith);
    } in
    record {
      asked = subst (λ (n : ℕ). AskedSince before after n) same (asked-from before middle after page child mid d.1);
      breaks = subst (λ (n : ℕ). BreaksAlone damage.rule pages count n ⊎ ((damage.rule ≡ Level) × HasWrongLevel pages root before after n)) same
          (⊎_elim (λ alone. inl alone) (λ at_level. inr (at_level.0, inr (mislevelled at_level.1))) d.2);
    }

-- a root's damage
pub harm-root : (pages : PageMap) (count root : ℕ) (before after : List ℕ) (damage : Damage)
    → (damage.page ≡ root) × AskedSince before after root × BreaksPlace damage.rule pages count root (λ found. 9 < found) → IsHarm pages count root before after damage
harm-root pages count root before after damage d =
    let same : root ≡ damage.page = sym d.0 in
    record {
      asked = subst (λ (n : ℕ). AskedSince before after n) same d.1;
      breaks = subst (λ (n : ℕ). BreaksAlone damage.rule pages count n ⊎ ((damage.rule ≡ Level) × HasWrongLevel pages root before after n)) same
          (⊎_elim (λ alone. inl alone) (λ at_level. inr (at_level.0, inl (refl, at_level.1))) d.2);
    }
