-- What a call refuses, and which pages it asks for, behind one that only read.
use Rattle.std.proofs.Common.{◌≡◌, ◌⊎◌, ℕ, List, inl, inr, subst, ⊎_elim, ◌∙◌}
use Rattle.page_face.specs.FreeList.{PageMap}
use Rattle.page_face.specs.declared.fault.Damage.{Damage}
use Rattle.btree_nodes.specs.declared.form.Form.{Form}
use Rattle.btree_nodes.specs.Supply.{view}
use Rattle.btree_nodes.specs.Tree.{map_uses}
use Rattle.btree_nodes.specs.Damages.{AreReadable, AskedSince, AsksOnly}
use Rattle.btree_nodes.proofs.Harms.{asks-further, asked-before}
use Rattle.paged_map.specs.Maps.{IsKept, IsMapDamaged}

-- the map is kept in the pages by their other name
pub kept-behind : (form : Form) (root : ℕ) (p p' : PageMap) (k k' f f' : ℕ) (free : List ℕ) → p' ≡ p → k' ≡ k → f' ≡ f → IsKept form (view p k f free) root → IsKept form (view p' k' f' free) root
kept-behind form root p p' k k' f f' free e g h kept = rw (e, g, h) kept

module _ (form : Form) (root : ℕ) (p p' : PageMap) (k k' : ℕ) (e : p' ≡ p) (g : k' ≡ k) (before middle after : List ℕ) (own : AreReadable p k → AsksOnly (map_uses form p root) before middle) where
  told-behind : AreReadable p k → AreReadable p' k'
  told-behind told = rw (e, g) told

  pub own-behind : (AreReadable p' k' → AsksOnly (map_uses form p' root) middle after) → AreReadable p k → AsksOnly (map_uses form p root) before after
  own-behind h told = asks-further (map_uses form p root) before middle after (own told) (subst (λ (x : PageMap). AsksOnly (map_uses form x root) middle after) e (h (told-behind told)))

  pub damage-behind : (damage : Damage) → (AreReadable p' k' → IsMapDamaged form p' k' root damage) → AreReadable p k → IsMapDamaged form p k root damage
  damage-behind damage h told = subst (λ (x : PageMap). IsMapDamaged form x k root damage) e (subst (λ (n : ℕ). IsMapDamaged form p' n root damage) g (h (told-behind told)))

  pub named-behind : (page : ℕ) → (AreReadable p' k' → AskedSince middle after page) → AreReadable p k → AskedSince before after page
  named-behind page h told = asked-before (map_uses form p root) before middle after page (own told) (h (told-behind told))

  pub both-behind : (damage : Damage) → (AreReadable p' k' → IsMapDamaged form p' k' root damage × AskedSince middle after damage.page) → AreReadable p k
      → IsMapDamaged form p k root damage × AskedSince before after damage.page
  both-behind damage h told = (damage-behind damage (λ t. (h t).0) told, named-behind damage.page (λ t. (h t).1) told)

  pub refused-behind : (damage : Damage) (Other : Type 0) → (AreReadable p' k' → (IsMapDamaged form p' k' root damage × AskedSince middle after damage.page) ⊎ Other) → AreReadable p k
      → (IsMapDamaged form p k root damage × AskedSince before after damage.page) ⊎ Other
  refused-behind damage Other h told =
      ⊎_elim {C = (IsMapDamaged form p k root damage × AskedSince before after damage.page) ⊎ Other}
      (λ b. inl (both-behind damage (λ t. b) told)) (λ o. inr o) (h (told-behind told))

-- pages that stay as a call found them, behind one that only read
pub stays-behind : (p p' p'' : PageMap) (k k' k'' : ℕ) (Other : Type 0) → p' ≡ p → k' ≡ k → (AreReadable p' k' → ((p'' ≡ p') × (k'' ≡ k')) ⊎ Other) → AreReadable p k
    → ((p'' ≡ p) × (k'' ≡ k)) ⊎ Other
stays-behind p p' p'' k k' k'' Other e g h told =
    ⊎_elim {C = ((p'' ≡ p) × (k'' ≡ k)) ⊎ Other} (λ s. inl (s.0 ∙ e, s.1 ∙ g)) (λ o. inr o) (h (rw (e, g) told))

-- what is said of a view by other names is said of it
pub claim-behind : (Claim : PageMap → ℕ → ℕ → Type 0) (p p' : PageMap) (k k' f f' : ℕ) → p' ≡ p → k' ≡ k → f' ≡ f → Claim p' k' f' → Claim p k f
claim-behind Claim p p' k k' f f' e g h claim =
    subst (λ (x : ℕ). Claim p k x) h (subst (λ (x : ℕ). Claim p x f') g (subst (λ (x : PageMap). Claim x k' f') e claim))
