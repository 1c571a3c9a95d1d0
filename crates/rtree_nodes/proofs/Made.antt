-- Pages and slots that are made from nothing.
use Rattle.std.proofs.Common.{◌≡◌, ℕ, zero, suc, ◌+◌, ◌-◌, ◌≤◌, true, false, List, [], ◌∷◌, ◌++◌, take, drop, length, replicate, Option, arith, refl, sym, ap, ◌∙◌}
use Rattle.std.specs.Prelude.{◌==◌}
use Rattle.std.specs.Int.{w32, to_be_bytes, bit_at}
use Rattle.std.proofs.Math.Path.{fun_ext}
use Rattle.std.proofs.lemmas.Bool.{and_parts, and_from, false≢true}
use Rattle.std.proofs.lemmas.List.{length-replicate, drop-drop, take_all}
use Rattle.std.proofs.lemmas.Nat.Bits.{bit_at-zero}
use Rattle.page_face.specs.FreeList.{are_zero}
use Rattle.spatial_base.specs.Key.{Name, IsName, form_of}
use Rattle.spatial_base.specs.Point.{Position}
use Rattle.spatial_base.specs.Rect.{Bounds}
use Rattle.rtree_nodes.specs.Slots.{no_slots}
use Rattle.rtree_nodes.specs.Numbers.{number_at, int_bytes}
use Rattle.rtree_nodes.specs.Cells.{cell_width, cell_start, place_cell, child_cell}
use Rattle.rtree_nodes.specs.Pages.{mask_of, is_used, cell_at, is_form, node_of}
use Rattle.rtree_nodes.proofs.Formed.{parts-form, form-node, stored-unused}
use Rattle.rtree_nodes.proofs.Keys.{length-form}
use Rattle.rtree_nodes.proofs.Puts.{zeros-clear}
use Rattle.rtree_nodes.proofs.Rewrites.{start-low}

-- parts of zeros are zeros
pub clear-take : (n : ℕ) (xs : List ℕ) → are_zero xs ≡ true → are_zero (take n xs) ≡ true
clear-take zero xs h = refl
clear-take (suc n) [] h = refl
clear-take (suc n) (x ∷ xs) h = let a = and_parts _ _ h in and_from _ _ a.0 (clear-take n xs a.1)

pub clear-drop : (n : ℕ) (xs : List ℕ) → are_zero xs ≡ true → are_zero (drop n xs) ≡ true
clear-drop zero xs h = h
clear-drop (suc n) [] h = refl
clear-drop (suc n) (x ∷ xs) h = let a = and_parts _ _ h in clear-drop n xs a.1

-- a kind and a level, and zeros behind them
abbrev blank : ℕ → List ℕ
blank level = 3 ∷ (level ∷ replicate 4094 0)

blank-behind : (level m : ℕ) → 2 ≤ m → are_zero (drop m (blank level)) ≡ true
blank-behind level m l =
    let more : 2 + (m - 2) ≡ m = omega arith in
    ap (λ (k : ℕ). are_zero (drop k (blank level))) (sym more)
    ∙ ap are_zero (sym (drop-drop (m - 2) 2 (blank level)))
    ∙ clear-drop (m - 2) (replicate 4094 0) (zeros-clear 4094)

pub blank-mask : (level : ℕ) → mask_of (blank level) ≡ 0
unfolding number_at
blank-mask level = refl

pub blank-unused : (level i : ℕ) → is_used (blank level) i ≡ false
blank-unused level i = ap (λ (n : ℕ). bit_at n i == 1) (blank-mask level) ∙ ap (λ (b : ℕ). b == 1) (bit_at-zero i)

blank-cell : (level i : ℕ) → are_zero (cell_at (blank level) i) ≡ true
unfolding cell_at
blank-cell level i = clear-take (cell_width level) (drop (cell_start level i) (blank level)) (blank-behind level (cell_start level i) (let low = start-low level i in omega arith))

pub blank-form : (page : List ℕ) (level : ℕ) → page ≡ 3 ∷ (level ∷ replicate 4094 0) → is_form page ≡ true
blank-form page level is = ap is_form is ∙ parts-form (blank level) record {
  long = omega (arith, length-replicate {A = ℕ} 4094 0);
  kind = refl;
  clear = record {
    two = clear-take 2 (drop 2 (blank level)) (blank-behind level 2 (omega arith));
    eight = clear-take 8 (drop 8 (blank level)) (blank-behind level 8 (omega arith));
    unused = λ i l u. blank-cell level i;
    rest = blank-behind level (cell_start level 32) (let low = start-low level 32 in omega arith);
  };
  values = λ i l u. absurd (false≢true (sym (blank-unused level i) ∙ u));
}

pub blank-node : (page : List ℕ) (level : ℕ) → page ≡ 3 ∷ (level ∷ replicate 4094 0) → node_of page ≡ record { level = level; slots = no_slots }
blank-node page level is =
    ap node_of is ∙ form-node (blank level) (sym (ap is_form is) ∙ blank-form page level is)
    ∙ ap (λ (s : ℕ → Option _). record { level = level; slots = s }) (fun_ext (λ i. stored-unused (blank level) i (blank-unused level i)))

pub blank-page-mask : (page : List ℕ) (level : ℕ) → page ≡ 3 ∷ (level ∷ replicate 4094 0) → mask_of page ≡ 0
blank-page-mask page level is = ap mask_of is ∙ blank-mask level

-- one piece more behind the pieces written so far
joined : {xs ys zs : List ℕ} (b : List ℕ) → xs ≡ ys ++ b → ys ≡ zs → xs ≡ zs ++ b
joined b whole front = whole ∙ ap (λ (l : List ℕ). l ++ b) front

-- a piece behind a front, by its bytes
piece : (n : ℕ) (a b out front : List ℕ) (m : ℕ) → a ≡ b → n + length b ≡ m → take (n + length a) out ≡ front ++ a → take m out ≡ front ++ b
piece n a b out front m e size w =
    let long : m ≡ n + length a = sym size ∙ ap (λ (l : List ℕ). n + length l) (sym e) in
    ap (λ (k : ℕ). take k out) long ∙ w ∙ ap (λ (l : List ℕ). front ++ l) e

-- what was written piece by piece is the place's bytes
pub place-made : (point : Position) (name : Name) (a b k o1 o2 o3 : List ℕ) → IsName name → a ≡ int_bytes point.x → b ≡ int_bytes point.y → k ≡ form_of name
    → take (0 + length a) o1 ≡ a → take (4 + length b) o2 ≡ take 4 o1 ++ b → take (8 + length k) o3 ≡ take 8 o2 ++ k → length o3 ≡ 74 → o3 ≡ place_cell point name
unfolding place_cell
place-made point name a b k o1 o2 o3 is x y f w1 w2 w3 size =
    let long = length-form name is in
    let first : take 4 o1 ≡ [] ++ int_bytes point.x = piece 0 a (int_bytes point.x) o1 [] 4 x refl w1 in
    let second : take 8 o2 ≡ take 4 o1 ++ int_bytes point.y = piece 4 b (int_bytes point.y) o2 (take 4 o1) 8 y refl w2 in
    let third : take 74 o3 ≡ take 8 o2 ++ form_of name = piece 8 k (form_of name) o3 (take 8 o2) 74 f (omega arith) w3 in
    sym (take_all 74 o3 (omega arith)) ∙ joined (form_of name) third (joined (int_bytes point.y) second first)

-- and a child's
pub child-made : (rect : Bounds) (page : ℕ) (a b d e f o1 o2 o3 o4 o5 : List ℕ)
    → a ≡ int_bytes rect.west → b ≡ int_bytes rect.south → d ≡ int_bytes rect.east → e ≡ int_bytes rect.north → f ≡ to_be_bytes w32 page
    → take (0 + length a) o1 ≡ a → take (4 + length b) o2 ≡ take 4 o1 ++ b → take (8 + length d) o3 ≡ take 8 o2 ++ d → take (12 + length e) o4 ≡ take 12 o3 ++ e
    → take (16 + length f) o5 ≡ take 16 o4 ++ f → length o5 ≡ 20 → o5 ≡ child_cell rect page
unfolding child_cell
child-made rect page a b d e f o1 o2 o3 o4 o5 w s t n p w1 w2 w3 w4 w5 size =
    let first : take 4 o1 ≡ [] ++ int_bytes rect.west = piece 0 a (int_bytes rect.west) o1 [] 4 w refl w1 in
    let second : take 8 o2 ≡ take 4 o1 ++ int_bytes rect.south = piece 4 b (int_bytes rect.south) o2 (take 4 o1) 8 s refl w2 in
    let third : take 12 o3 ≡ take 8 o2 ++ int_bytes rect.east = piece 8 d (int_bytes rect.east) o3 (take 8 o2) 12 t refl w3 in
    let fourth : take 16 o4 ≡ take 12 o3 ++ int_bytes rect.north = piece 12 e (int_bytes rect.north) o4 (take 12 o3) 16 n refl w4 in
    let fifth : take 20 o5 ≡ take 16 o4 ++ to_be_bytes w32 page = piece 16 f (to_be_bytes w32 page) o5 (take 16 o4) 20 p refl w5 in
    sym (take_all 20 o5 (omega arith))
    ∙ joined (to_be_bytes w32 page) fifth (joined (int_bytes rect.north) fourth (joined (int_bytes rect.east) third (joined (int_bytes rect.south) second first)))
