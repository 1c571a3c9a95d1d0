-- A tree into which an item was put: what is known of it by what has become of its root.
use Rattle.std.proofs.Common.{◌≡◌, ℕ, suc, ◌<◌, ◌∷◌, Option, Some, None, Result, Ok, Err, sym, ap, ◌∙◌, subst, option_map, true}
use Rattle.std.specs.Result.{IfOk}
use Rattle.page_face.specs.FreeList.{PageMap}
use Rattle.rtree_nodes.specs.Slots.{Item, NodeMap}
use Rattle.rtree_nodes.specs.Trees.{root_least, stand_uses}
use Rattle.rtree_nodes.specs.Heads.{stand_heads}
use Rattle.rtree_nodes.specs.Stock.{View}
use Rattle.rtree_nodes.specs.Made.{Rises}
use Rattle.rtree_nodes.specs.Loose.{Loose}
use Rattle.rtree_nodes.specs.declared.content.Slot.{Slot}
use Rattle.rtree_nodes.specs.Reach.{is_place}
use Rattle.rtree_nodes.specs.Pages.{node_of}
use Rattle.irtree_shape.specs.Stock.{IsSupplied}
use Rattle.irtree_shape.specs.Steps.{bounding_child, bounding_child_in}
use Rattle.irtree_shape.specs.Made.{IsOpen, IsMade, IsRaised, Puts, nodes_in}
use Rattle.irtree_shape.specs.Whole.{IsWhole, IsPlanted, level_at}
use Rattle.irtree_shape.specs.Loose.{IsStanding}
use Rattle.irtree_shape.proofs.Climbs.{open_some}
use Rattle.irtree_shape.proofs.Plants.{whole_open}
use Rattle.irtree_shape.proofs.Replants.{standing_open}
use Rattle.irtree_insert.specs.declared.grown.Beside.{Beside}
use Rattle.irtree_insert.specs.Fits.{Fits}
use Rattle.irtree_insert.specs.Grown.{beside_item}
use Rattle.irtree_insert.proofs.Loads.{leaf-fits}
use Rattle.irtree_insert.proofs.Rises.{rises-none, planted-rise}

-- what two facts say of what was returned
pub both-ok : {T E : Type 0} (r : Result T E) (P Q R : T → Type 0) → ((t : T) → P t → Q t → R t) → IfOk r P → IfOk r Q → IfOk r R
both-ok (Ok t) P Q R h p q = h t p q
both-ok (Err e) P Q R h p q = tt

-- a slot that fits a leaf is a place
pub place-fits : (goal : ℕ) (slot : Slot) → goal ≡ 0 → Fits goal slot → is_place slot ≡ true
place-fits goal slot e fits = fits ∙ sym (leaf-fits goal e)

-- a place may be put in below the root of a whole tree, at a goal that is 0
pub root-open : (v : View) (root goal : ℕ) (x : Item) → goal ≡ 0 → 0 < root → IsWhole node_of v root
    → IsOpen node_of v (root_least (level_at (nodes_in node_of v.pages v.rows) root)) (level_at (nodes_in node_of v.pages v.rows) root) root goal x
root-open v root goal x e some whole = subst (λ (k : ℕ). IsOpen node_of v (root_least (level_at (nodes_in node_of v.pages v.rows) root)) (level_at (nodes_in node_of v.pages v.rows) root) root k x) (sym e) (whole_open node_of v root x some whole)

-- the same item and the same node beside it, by other names
pub puts-as : {v : View} {pages : PageMap} {rows count first least level page goal goal' : ℕ} (x : Item) {more more' : Option Item} {told : ℕ → ℕ} {rise : ℕ → Type 0} → goal ≡ goal' → more ≡ more'
    → Puts node_of v pages rows count first least level page goal x more told rise → Puts node_of v pages rows count first least level page goal' x more' told rise
puts-as {v = v} {pages = pages} {rows = rows} {count = count} {first = first} {least = least} {level = level} {page = page} {goal' = goal'} x {more = more} {told = told} {rise = rise} e m put =
    subst (λ (o : Option Item). Puts node_of v pages rows count first least level page goal' x o told rise) m
    (subst (λ (k : ℕ). Puts node_of v pages rows count first least level page k x more told rise) e put)

-- the node beside a root, by the one that was returned
pub beside-is : (nodes : NodeMap) (more : Option Beside) (b : Beside) → more ≡ Some b → bounding_child_in nodes (option_map beside_item more) ≡ Some (bounding_child nodes (beside_item b))
beside-is nodes more b e = ap (λ (m : Option Beside). bounding_child_in nodes (option_map beside_item m)) e

-- no node was made beside it
pub beside-none : (nodes : NodeMap) (more : Option Beside) → more ≡ None → bounding_child_in nodes (option_map beside_item more) ≡ None
beside-none nodes more e = ap (λ (m : Option Beside). bounding_child_in nodes (option_map beside_item m)) e

-- a root that was split, of the same level by another name
pub raised-of-level : {v : View} {least level level' root : ℕ} {y : Item} {sums : (Item → ℕ) → ℕ} {reach told : ℕ → ℕ} → level ≡ level' → IsRaised node_of v least level root y sums reach told → IsRaised node_of v least level' root y sums reach told
raised-of-level {v = v} {least = least} {root = root} {y = y} {sums = sums} {reach = reach} {told = told} e h = subst (λ (l : ℕ). IsRaised node_of v least l root y sums reach told) e h

-- the new root, of the same level by another name
pub made-of-level : {v : View} {pages : PageMap} (nodes : NodeMap) {rows count first level level' : ℕ} (root : ℕ) {top : ℕ} (more : Option Item) {sums : (Item → ℕ) → ℕ} {wide told : ℕ → ℕ} {rise : ℕ → Type 0} → level ≡ level'
    → IsMade node_of v pages rows count first 2 (suc level) top (λ n. stand_uses nodes level root more n) None sums (λ g. stand_heads nodes g level root more) wide told rise
    → IsMade node_of v pages rows count first 2 (suc level') top (λ n. stand_uses nodes level' root more n) None sums (λ g. stand_heads nodes g level' root more) wide told rise
made-of-level {v = v} {pages = pages} nodes {rows = rows} {count = count} {first = first} root {top = top} more {sums = sums} {wide = wide} {told = told} {rise = rise} e made =
    subst (λ (l : ℕ). IsMade node_of v pages rows count first 2 (suc l) top (λ n. stand_uses nodes l root more n) None sums (λ g. stand_heads nodes g l root more) wide told rise) e made

-- the first leaf, of a tree whose root is 0: no split was made
pub first-planted : {v : View} {pages : PageMap} {rows count first root top : ℕ} {x : Item} (splits : ℕ) → root ≡ 0 → IsPlanted node_of v pages rows count first 0 top x (λ n. n ≡ 0)
    → IsPlanted node_of v pages rows count first root top x (Rises splits splits)
first-planted {v = v} {pages = pages} {rows = rows} {count = count} {first = first} {top = top} {x = x} splits e h =
    subst (λ (r : ℕ). IsPlanted node_of v pages rows count first r top x (Rises splits splits)) (sym e) (planted-rise (λ n k. rises-none splits n k) h)

-- a tree whose root is 0 is the empty one
pub empty-whole : (v : View) (root : ℕ) → root ≡ 0 → IsWhole node_of v root → IsWhole node_of v 0
empty-whole v root e whole = subst (λ (r : ℕ). IsWhole node_of v r) e whole

-- where loose items are put back the root isn't 0
pub standing-some : (before now : View) (level root : ℕ) (o : ℕ × Item) (rest : Loose) (mine : ℕ → ℕ) (sums : (Item → ℕ) → ℕ) → IsSupplied before → IsStanding node_of before now level root (o ∷ rest) mine sums → 0 < root
standing-some before now level root o rest mine sums start h = open_some node_of now 1 level root o.0 o.1 (standing_open node_of before now level root o rest mine sums h start)
