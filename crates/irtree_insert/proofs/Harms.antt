-- Which damage a node that is read on the way down is refused for.
use Rattle.std.proofs.Common.{◌≡◌, ◌⊎◌, ℕ, suc, ◌+◌, ◌<◌, true, false, not, List, [], ◌∷◌, ◌++◌, length, arith, sym, ap, ◌∙◌, subst, ⊎_elim, inl, inr}
use Rattle.std.specs.Prelude.{◌≢◌, ◌||◌}
use Rattle.std.specs.Int.{bit_at}
use Rattle.std.specs.List.{AllByRecursion}
use Rattle.std.proofs.lemmas.Bool.{cases_Bool, false≢true}
use Rattle.page_face.specs.FreeList.{PageMap}
use Rattle.page_face.specs.declared.fault.Rule.TheVariants.{Level}
use Rattle.page_face.specs.declared.fault.Damage.{Damage}
use Rattle.btree_nodes.specs.Damages.{AskedSince, AsksOnly}
use Rattle.btree_nodes.proofs.Harms.{asked-before, asks-keep}
use Rattle.rtree_nodes.specs.Slots.{IsChildAt}
use Rattle.rtree_nodes.specs.Numbers.{number_at}
use Rattle.rtree_nodes.specs.Cells.{cell_start, has_rect}
use Rattle.rtree_nodes.specs.Pages.{level_in, mask_of, is_used, cell_at, has_values, has_rects, stored_in}
use Rattle.rtree_nodes.proofs.AllBelow.{all_below-from}
use Rattle.rtree_nodes.proofs.Formed.{not_or_made, values-at}
use Rattle.rtree_nodes.proofs.Masks.{slot-bit}
use Rattle.rtree_nodes.proofs.Children.{child-read}
use Rattle.rtree_nodes.proofs.Bounding.{form-rect}
use Rattle.rtree_nodes.specs.Harms.{IfReadable, IsMislevelled}
use Rattle.node_rows.specs.Damages.{IsRowsHarm}
use Rattle.node_rows.proofs.Harms.{harm-later}
use Rattle.irtree_shape.specs.Damages.{IsBroken, IsNodeHarm, IsTreeHarm}
use Rattle.irtree_insert.specs.declared.draft.Draft.{Draft}

-- where each used slot is of its form, each has a rectangle
values-rects : (page : List ℕ) → has_values page ≡ true → has_rects page ≡ true
values-rects page h = all_below-from 32 (λ i. not (is_used page i) || has_rect (level_in page) (cell_at page i))
    (λ i l. not_or_made (is_used page i) (has_rect (level_in page) (cell_at page i)) (λ u. form-rect (level_in page) (cell_at page i) (values-at page h i l u)))

-- where one has none, one isn't of its form
pub no-values : (page : List ℕ) → has_rects page ≡ false → has_values page ≡ false
no-values page none = ⊎_elim (λ (t : has_values page ≡ true). absurd (false≢true (sym none ∙ values-rects page t))) (λ (f : has_values page ≡ false). f) (cases_Bool (has_values page))

any-own : (xs : List ℕ) → AllByRecursion (λ n. 0 < 1) xs
any-own [] = tt
any-own (x ∷ xs) = (omega arith, any-own xs)

-- any pages may have been asked for
pub asks-since : (before after : List ℕ) (page : ℕ) → AskedSince before after page → AsksOnly (λ _. 1) before after
asks-since before after page a = record { more = a.front ++ (page ∷ a.back); is = a.is; own = any-own (a.front ++ (page ∷ a.back)) }

-- the damage of a page that was read first
pub page-harm : (rows : ℕ) (old new : PageMap) (c0 c1 first : ℕ) (before after : List ℕ) (page : ℕ) (damage : Damage) → new ≡ old → c1 ≡ c0 → damage.page ≡ page → AskedSince before after page → IsBroken damage.rule old c0 page
    → IsTreeHarm new c1 first rows before after damage
page-harm rows old new c0 c1 first before after page damage same counted is asked broken = inl (record {
  asked = subst (λ (n : ℕ). AskedSince before after n) (sym is) asked;
  breaks = inl (subst (λ (n : ℕ). IsBroken damage.rule new c1 n) (sym is) (subst (λ (p : PageMap). IsBroken damage.rule p c1 page) (sym same) (subst (λ (k : ℕ). IsBroken damage.rule old k page) (sym counted) broken)));
})

-- a root whose level is above 9
pub high-harm : (rows : ℕ) (old new : PageMap) (count first : ℕ) (before after : List ℕ) (page level : ℕ) (bytes : List ℕ) (damage : Damage) → new ≡ old → damage ≡ record { page = page; rule = Level } → AskedSince before after page
    → (0 < length (old page) → bytes ≡ old page) → level ≡ level_in bytes → 9 < level → IsTreeHarm new count first rows before after damage
high-harm rows old new count first before after page level bytes damage same is asked told level_is high = subst (λ (d : Damage). IsTreeHarm new count first rows before after d) (sym is) (inl (record {
  asked = asked;
  breaks = inl (subst (λ (p : PageMap). IfReadable p page (λ b. 9 < level_in b)) (sym same) (λ some. let e = level_is ∙ ap level_in (told some) in omega arith));
}))

-- a child's damage
pub child-harm : (rows : ℕ) (old mid new : PageMap) (c1 c2 first : ℕ) (before asked0 asked1 asked2 bytes : List ℕ) (l page at child : ℕ) (damage : Damage)
    → mid ≡ old → new ≡ mid → c2 ≡ c1 → bytes ≡ old page → level_in bytes ≡ suc l → IsChildAt (stored_in bytes) at child
    → AskedSince before asked0 page → AsksOnly (λ _. 1) asked0 asked1 → AsksOnly (λ _. 1) asked1 asked2
    → (damage.page ≡ child) × AskedSince asked1 asked2 child × (IsBroken damage.rule mid c1 child ⊎ ((damage.rule ≡ Level) × IfReadable mid child (λ b. level_in b ≢ l)))
    → IsTreeHarm new c2 first rows before asked2 damage
child-harm rows old mid new c1 c2 first before asked0 asked1 asked2 bytes l page at child damage same0 same1 counted is level kept asked more0 more1 d =
    let is' : bytes ≡ mid page = is ∙ ap (λ (p : PageMap). p page) (sym same0) in
    let here : child ≡ damage.page = sym d.0 in
    let mislevelled : IfReadable mid child (λ b. level_in b ≢ l) → IsMislevelled mid before asked2 child = λ wrong. record {
      parent = page;
      at = at;
      asked = asks-keep (λ _. 1) asked1 asked2 more1 before page (asks-keep (λ _. 1) asked0 asked1 more0 before page asked);
      names = λ some. subst (λ (b : List ℕ). IsChildAt (stored_in b) at child) is' kept;
      level = λ some there e. let a : level_in bytes ≡ level_in (mid page) = ap level_in is' in wrong there (omega arith);
    } in
    let harm : IsNodeHarm mid c1 before asked2 damage = record {
      asked = subst (λ (n : ℕ). AskedSince before asked2 n) here
          (asked-before (λ _. 1) before asked0 asked2 child (asks-since before asked0 page asked) (asked-before (λ _. 1) asked0 asked1 asked2 child more0 d.1));
      breaks = subst (λ (n : ℕ). IsBroken damage.rule mid c1 n ⊎ ((damage.rule ≡ Level) × IsMislevelled mid before asked2 n)) here
          (⊎_elim (λ broken. inl broken) (λ wrong. inr (wrong.0, mislevelled wrong.1)) d.2);
    } in
    subst (λ (p : PageMap). IsTreeHarm p c2 first rows before asked2 damage) (sym same1) (subst (λ (k : ℕ). IsTreeHarm mid k first rows before asked2 damage) (sym counted) (inl harm))

-- a change of rows that was damaged
pub rows-harm : (rows : ℕ) (pages : PageMap) (count first : ℕ) (before middle after : List ℕ) (page : ℕ) (damage : Damage) → AskedSince before middle page → IsRowsHarm pages count first rows middle after damage → IsTreeHarm pages count first rows before after damage
rows-harm rows pages count first before middle after page damage asked h = inr (harm-later rows (λ _. 1) pages count first before middle after damage (asks-since before middle page asked) h)

-- the child that was read in a used slot is stored there
pub stored-child : (draft : Draft) (at child : ℕ) → draft.used ≡ mask_of draft.bytes → 0 < level_in draft.bytes → at < 32 → bit_at draft.used at ≡ 1 → child ≡ number_at (cell_start 1 at + 16) draft.bytes → IsChildAt (stored_in draft.bytes) at child
stored-child draft at child used inner within bit is = child-read draft.bytes at child inner within (sym (slot-bit draft.bytes at within) ∙ ap (λ (m : ℕ). bit_at m at) (sym used) ∙ bit) is
