-- Items of which those that cost too much are left out.
use Rattle.std.proofs.Common.{◌≡◌, ℕ, Bool, true, false, if◌then◌else◌, List, [], ◌∷◌, ◌++◌, Option, Some, None, Result, Ok, Err, Vec, Global, refl, sym, subst, ◌∙◌, ⊎_elim, IsPermutation}
use Rattle.std.specs.Prelude.{IfSome, IfOk}
use Rattle.std.specs.List.{AllByRecursion}
use Rattle.std.proofs.lemmas.List.{append-nil}
use Rattle.std.proofs.lemmas.Grind.{flat_map-append}
use Rattle.std.proofs.lemmas.List.Sorted.{IsPermutation-refl, IsPermutation-cons, IsPermutation-middle, IsPermutation-sym, IsPermutation-trans}
use Rattle.std.proofs.lemmas.Bool.{cases_Bool}
use Rattle.page_face.specs.declared.fault.PageFault.{PageFault}
use Rattle.rtree_nodes.specs.Pages.{is_form}
use Rattle.best_first.specs.declared.item.Item.{Item}
use Rattle.best_first.specs.Items.{bound_of, IsGivenAt}
use Rattle.best_first.specs.Cuts.{is_over, kept_one, kept_of, IsCut, Gave}
use Rattle.best_first.specs.Lists.{all_weaker}

-- nothing is left out
pub cut-none : (most : Option ℕ) (items : List Item) → IsCut most items items
cut-none most items = record {
  out = [];
  parts = subst (IsPermutation items) (sym (append-nil items)) (IsPermutation-refl items);
  over = tt;
}

cut-one : (most : Option ℕ) (item : Item) (all items : List Item) (b : Bool) → is_over most (bound_of item) ≡ b → IsCut most all items → IsCut most (item ∷ all) ((if b then [] else item ∷ []) ++ items)
cut-one most item all items true e c = record {
  out = item ∷ c.out;
  parts = IsPermutation-sym (items ++ item ∷ c.out) (item ∷ all) (middle c.out c.parts);
  over = (e, c.over);
}
  where
    middle : (out : List Item) → IsPermutation all (items ++ out) → IsPermutation (items ++ item ∷ out) (item ∷ all)
    middle out p = IsPermutation-trans _ _ _ (IsPermutation-middle items item out) (IsPermutation-cons item _ _ (IsPermutation-sym all (items ++ out) p))
cut-one most item all items false e c = record {
  out = c.out;
  parts = IsPermutation-cons item all (items ++ c.out) c.parts;
  over = c.over;
}

-- those above the most are left out
pub cut-kept : (most : Option ℕ) (all : List Item) → IsCut most all (kept_of most all)
cut-kept most [] = cut-none most []
cut-kept most (item ∷ all) = cut-one most item all (kept_of most all) (is_over most (bound_of item)) refl (cut-kept most all)

-- what is kept of two parts
pub kept-parts : (most : Option ℕ) (xs ys : List Item) → kept_of most (xs ++ ys) ≡ kept_of most xs ++ kept_of most ys
kept-parts most xs ys = flat_map-append (kept_one most) xs ys

-- of one item
pub kept-alone : (most : Option ℕ) (item : Item) → kept_of most (item ∷ []) ≡ kept_one most item
kept-alone most item = append-nil (kept_one most item)

-- What a search was given of a node: of a page that is a node's all that it has but what is left out, of other bytes what it was given.
pub gave-from : (bytes : List ℕ) (stand : Item → Type 0) (level : ℕ) (fits : Type 0) (whole : List Item) (most : Option ℕ) (all items : List Item) → items ≡ kept_of most all
    → AllByRecursion stand items → AllByRecursion (IsGivenAt level) items → (is_form bytes ≡ true → AllByRecursion stand all) → AllByRecursion (IsGivenAt level) all
    → (fits → is_form bytes ≡ true) → (fits → all ≡ whole) → Gave stand level fits whole most items
gave-from bytes stand level fits whole most all items e si gi sa ga form is = ⊎_elim
    (λ (t : is_form bytes ≡ true). record { all = all; stood = sa t; children = ga; is = is; cut = subst (IsCut most all) (sym e) (cut-kept most all) })
    (λ (f : is_form bytes ≡ false). record { all = items; stood = si; children = gi; is = λ w. let t = form w in absurd (cc); cut = cut-none most items })
    (cases_Bool (is_form bytes))

-- the same in other words
pub gave-as : (stand : Item → Type 0) (level : ℕ) (fits wide : Type 0) (whole same : List Item) (most : Option ℕ) (items : List Item) → (wide → fits) → (wide → whole ≡ same) → Gave stand level fits whole most items → Gave stand level wide same most items
gave-as stand level fits wide whole same most items f e g = record { all = g.all; stood = g.stood; children = g.children; is = λ w. g.is (f w) ∙ e w; cut = g.cut }

-- what holds of an item holds of it where it is there
pub some-same : (P : Item → Type 0) (item : Item) (o : Option Item) → IfSome o (λ (kept : Item). kept ≡ item) → P item → IfSome o P
some-same P item None e h = tt
some-same P item (Some kept) e h = subst P (sym e) h

-- what gives all that it has, and promises nothing of it
pub gave-freely : (stand : Item → Type 0) (level : ℕ) (fits : Type 0) (whole : List Item) (most : Option ℕ) (r : Result (Vec Item Global) PageFault) → ((item : Item) → stand item) → (fits → ⊥)
    → IfOk r (λ items. AllByRecursion (IsGivenAt level) items.items) → IfOk r (λ items. Gave stand level fits whole most items.items)
gave-freely stand level fits whole most (Ok items) s f g = record {
  all = items.items;
  stood = all_weaker (IsGivenAt level) stand (λ i h. s i) items.items g;
  children = g;
  is = λ w. absurd (f w);
  cut = cut-none most items.items;
}
gave-freely stand level fits whole most (Err e) s f g = tt
