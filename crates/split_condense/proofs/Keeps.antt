-- Words that stay at a page as something is taken out there.
use Rattle.std.proofs.Common.{◌≡◌, ℕ, ◌+◌, arith, refl, sym, ◌∙◌, Option, Some, None, List, [], ◌∷◌, length, false}
use Rattle.rtree_nodes.specs.Slots.{Item, Slots, got, one, amount}
use Rattle.rtree_nodes.specs.Loose.{total_loose}
use Rattle.rtree_nodes.proofs.Amounts.{amount-at}
use Rattle.rtree_nodes.proofs.Sums.{top-same, top-zero}
use Rattle.node_rows.specs.Rows.{Bytes}
use Rattle.node_rows.specs.Turns.{HasNone}
use Rattle.node_rows.specs.Impacts.{top_at}
use Rattle.node_rows.specs.Refreshing.{is_named}
use Rattle.node_rows.proofs.Impacts.{top-at-same, top-clear}
use Rattle.irtree_shape.specs.Words.{AreBlank}
use Rattle.split_condense.specs.declared.orphan.Orphan.{Orphan}
use Rattle.split_condense.specs.Orphans.{loose_in}
use Rattle.split_condense.specs.Clears.{KeepsWords}

-- as many items are loose as there are orphans
pub loose-many : (os : List Orphan) → total_loose (λ l y. one y) (loose_in os) ≡ length os
loose-many [] = refl
loose-many (o ∷ os) = let e = loose-many os in omega arith

none-one : (o : Option Item) → got one o ≡ 0 → o ≡ None
none-one None z = refl
none-one (Some y) z = absurd (omega arith)

-- where no slot is used, no word has a byte
pub unused-top : (b : Bytes) (page : ℕ) (s : Slots) → AreBlank (b page) s → amount one s ≡ 0 → (w : ℕ) → top_at b page w ≡ 0
unfolding top_at
unused-top b page s blank none w = top-same 32 (λ i. b page w i) (λ i. 0) (λ i l. blank w i (none-one (s i) (let a = amount-at one s i l in omega arith))) ∙ top-zero 32

-- a node that stays keeps its words
pub keeps-still : (page many : ℕ) (before after : Bytes) → ((w i : ℕ) → after page w i ≡ before page w i) → KeepsWords [] page before after many many
keeps-still page many before after same = record { more = omega arith; others = λ e w n. top-at-same after before page w (λ i. same w i) }

-- a node of which no item became an orphan had no word
pub keeps-gone : (page : ℕ) (before after : Bytes) (s : Slots) (olds news : List Orphan) → AreBlank (before page) s → HasNone after page
    → total_loose (λ l y. one y) (loose_in news) ≡ total_loose (λ l y. one y) (loose_in olds) + amount one s → KeepsWords [] page before after (length olds) (length news)
keeps-gone page before after s olds news blank none grew =
    let a = loose-many olds in let b = loose-many news in
    record {
      more = omega arith;
      others = λ e w n. top-clear after page w (λ i. none w i) ∙ sym (unused-top before page s blank (omega arith) w);
    }

-- what was kept from after these words had changed was kept from before, for the others
pub keeps-before : (words : List (ℕ × ℕ)) (page were are : ℕ) (before mid after : Bytes) → ((w i : ℕ) → is_named words w ≡ false → mid page w i ≡ before page w i)
    → KeepsWords [] page mid after were are → KeepsWords words page before after were are
keeps-before words page were are before mid after same keeps = record {
  more = keeps.more;
  others = λ e w n. keeps.others e w refl ∙ top-at-same mid before page w (λ i. same w i n);
}

-- the same where words were kept below a child, too
pub keeps-below : (words : List (ℕ × ℕ)) (page child were mids are : ℕ) (before mid last after : Bytes) → KeepsWords words child before mid were mids
    → ((w i : ℕ) → top_at mid child w ≡ top_at before child w → last page w i ≡ before page w i) → KeepsWords [] page last after mids are → KeepsWords words page before after were are
keeps-below words page child were mids are before mid last after below same keeps =
    let a = below.more in let b = keeps.more in
    record {
      more = omega arith;
      others = λ e w n. keeps.others (omega arith) w refl ∙ top-at-same last before page w (λ i. same w i (below.others (omega arith) w n));
    }
