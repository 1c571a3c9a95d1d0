-- A node's page is told by the node: the bytes of two pages of the same node are the same.
use Rattle.std.proofs.Common.{◌≡◌, ℕ, zero, suc, ◌+◌, ◌-◌, ◌*◌, ◌<◌, ◌≤◌, true, false, List, [], ◌∷◌, ◌++◌, take, drop, length, get_or, Some, arith, refl, sym, ap, ◌∙◌, ⊎_elim}
use Rattle.std.specs.Prelude.{◌==◌}
use Rattle.std.specs.Int.{w32, cast_unsigned, bit_at}
use Rattle.std.proofs.lemmas.Bool.{and_parts, cases_Bool, eqb-true}
use Rattle.std.proofs.lemmas.Int.{of_z-to_z, ints}
use Rattle.std.proofs.lemmas.List.{take-append-drop, length-drop, length-take-le, drop-drop, take_all, take-take, drop-take}
use Rattle.std.proofs.Math.Seq.{drop-cons}
use Rattle.std.proofs.lemmas.Nat.{be_bytes_4}
use Rattle.std.proofs.lemmas.Nat.Bits.{same_from_bits_below}
use Rattle.page_face.specs.FreeList.{are_zero}
use Rattle.spatial_base.specs.Rect.{Bounds, rect_of}
use Rattle.rtree_nodes.specs.Slots.{Item, Slots, NodeView, got, one}
use Rattle.rtree_nodes.specs.Numbers.{number_at, int_at}
use Rattle.rtree_nodes.specs.Reach.{reach_of}
use Rattle.rtree_nodes.specs.Cells.{cell_width, cell_start, item_in, has_form, point_of, key_of, rect_at}
use Rattle.rtree_nodes.specs.Pages.{level_in, mask_of, is_used, cell_at, item_at, is_form, stored_in, node_of}
use Rattle.rtree_nodes.proofs.Cells.{map-from, rect-from}
use Rattle.rtree_nodes.proofs.Formed.{form-parts, form-node, stored-used}
use Rattle.rtree_nodes.proofs.Masks.{slot-bit}
use Rattle.rtree_nodes.proofs.Parts.{number-fits, bytes-part}
use Rattle.rtree_nodes.proofs.Reaches.{same-rect}

abbrev pub AreBytes : List ℕ → Type 0
AreBytes xs = (i : ℕ) → get_or xs i 0 < 256

-- two lists of the same parts are the same
parts-same : (n : ℕ) (xs ys : List ℕ) → take n xs ≡ take n ys → drop n xs ≡ drop n ys → xs ≡ ys
parts-same n xs ys front back = sym (take-append-drop n xs) ∙ (λ i. front i ++ back i) ∙ take-append-drop n ys

-- zeros are as many as they are
clear-same : (xs ys : List ℕ) → length xs ≡ length ys → are_zero xs ≡ true → are_zero ys ≡ true → xs ≡ ys
clear-same [] [] e h k = refl
clear-same [] (y ∷ ys) e h k = absurd (omega arith)
clear-same (x ∷ xs) [] e h k = absurd (omega arith)
clear-same (x ∷ xs) (y ∷ ys) e h k =
    let a = and_parts _ _ h in
    let b = and_parts _ _ k in
    let first : x ≡ y = eqb-true x 0 a.0 ∙ sym (eqb-true y 0 b.0) in
    let rest = clear-same xs ys (omega arith) a.1 b.1 in
    λ i. first i ∷ rest i

-- four bytes are told by their number
number-same : (at : ℕ) (xs ys : List ℕ) → AreBytes xs → AreBytes ys → at + 4 ≤ length xs → at + 4 ≤ length ys → number_at at xs ≡ number_at at ys → take 4 (drop at xs) ≡ take 4 (drop at ys)
unfolding number_at
number-same at xs ys p q l m e =
    sym (be_bytes_4 (take 4 (drop at xs)) (number_at at xs) (length-take-le 4 (drop at xs) (omega (arith, length-drop at xs))) (bytes-part at 4 xs p) refl)
    ∙ be_bytes_4 (take 4 (drop at ys)) (number_at at xs) (length-take-le 4 (drop at ys) (omega (arith, length-drop at ys))) (bytes-part at 4 ys q) e

-- and so they are by their signed number
int-same : (at : ℕ) (xs ys : List ℕ) → AreBytes xs → AreBytes ys → at + 4 ≤ length xs → at + 4 ≤ length ys → int_at at xs ≡ int_at at ys → take 4 (drop at xs) ≡ take 4 (drop at ys)
int-same at xs ys p q l m e =
    number-same at xs ys p q l m (
    sym (of_z-to_z w32 (number_at at xs) (number-fits at xs p l)) ∙ ap (cast_unsigned w32) e ∙ of_z-to_z w32 (number_at at ys) (number-fits at ys q m))

-- a part is two parts
split : (at m n : ℕ) (xs ys : List ℕ) → take m (drop at xs) ≡ take m (drop at ys) → take n (drop (at + m) xs) ≡ take n (drop (at + m) ys) → take (m + n) (drop at xs) ≡ take (m + n) (drop at ys)
split at m n xs ys front back =
    parts-same m (take (m + n) (drop at xs)) (take (m + n) (drop at ys))
    (take-take m (m + n) (drop at xs) (omega arith) ∙ front ∙ sym (take-take m (m + n) (drop at ys) (omega arith)))
    (drop-take m n (drop at xs) ∙ ap (take n) (drop-drop m at xs) ∙ back ∙ sym (ap (take n) (drop-drop m at ys)) ∙ sym (drop-take m n (drop at ys)))

-- the bytes of a leaf's slot are told by its item
leaf-same : (xs ys : List ℕ) → length xs ≡ 74 → length ys ≡ 74 → AreBytes xs → AreBytes ys → has_form 0 xs ≡ true → has_form 0 ys ≡ true → item_in 0 xs ≡ item_in 0 ys → xs ≡ ys
leaf-same xs ys l m p q f g e =
    let on = map-from (int_at 0 xs) (int_at 4 xs) (and_parts _ _ f).0 in
    let at = map-from (int_at 0 ys) (int_at 4 ys) (and_parts _ _ g).0 in
    let reach : reach_of (rect_of (point_of xs)) ≡ reach_of (rect_of (point_of ys)) = ap (λ (x : Item). x.reach) e in
    let rect : rect_of (point_of xs) ≡ rect_of (point_of ys) =
    same-rect (rect_of (point_of xs)) (rect_of (point_of ys)) (on, on, omega (arith, ints), omega (arith, ints)) (at, at, omega (arith, ints), omega (arith, ints)) (λ d k. ap (λ (h : ℕ → ℕ). h d) reach) in
    let x = int-same 0 xs ys p q (omega arith) (omega arith) (ap (λ (r : Bounds). r.west) rect) in
    let y = int-same 4 xs ys p q (omega arith) (omega arith) (ap (λ (r : Bounds). r.south) rect) in
    let key : key_of xs ≡ key_of ys = ap (λ (x : Item). x.key) e in
    let whole : take 74 (drop 0 xs) ≡ take 74 (drop 0 ys) = split 0 8 66 xs ys (split 0 4 4 xs ys x y) key in
    sym (take_all 74 xs (omega arith)) ∙ whole ∙ take_all 74 ys (omega arith)

-- and those of an inner node's slot
inner-same : (level : ℕ) (xs ys : List ℕ) → length xs ≡ 20 → length ys ≡ 20 → AreBytes xs → AreBytes ys → has_form (suc level) xs ≡ true → has_form (suc level) ys ≡ true
    → item_in (suc level) xs ≡ item_in (suc level) ys → xs ≡ ys
inner-same level xs ys l m p q f g e =
    let reach : reach_of (rect_at xs) ≡ reach_of (rect_at ys) = ap (λ (x : Item). x.reach) e in
    let rect : rect_at xs ≡ rect_at ys = same-rect (rect_at xs) (rect_at ys) (rect-from (rect_at xs) f) (rect-from (rect_at ys) g) (λ d k. ap (λ (h : ℕ → ℕ). h d) reach) in
    let west = int-same 0 xs ys p q (omega arith) (omega arith) (ap (λ (r : Bounds). r.west) rect) in
    let south = int-same 4 xs ys p q (omega arith) (omega arith) (ap (λ (r : Bounds). r.south) rect) in
    let east = int-same 8 xs ys p q (omega arith) (omega arith) (ap (λ (r : Bounds). r.east) rect) in
    let north = int-same 12 xs ys p q (omega arith) (omega arith) (ap (λ (r : Bounds). r.north) rect) in
    let child = number-same 16 xs ys p q (omega arith) (omega arith) (ap (λ (x : Item). x.to) e) in
    let whole : take 20 (drop 0 xs) ≡ take 20 (drop 0 ys) =
    split 0 16 4 xs ys (split 0 12 4 xs ys (split 0 8 4 xs ys (split 0 4 4 xs ys west south) east) north) child in
    sym (take_all 20 xs (omega arith)) ∙ whole ∙ take_all 20 ys (omega arith)

cell-same : (level : ℕ) (xs ys : List ℕ) → length xs ≡ cell_width level → length ys ≡ cell_width level → AreBytes xs → AreBytes ys → has_form level xs ≡ true → has_form level ys ≡ true
    → item_in level xs ≡ item_in level ys → xs ≡ ys
cell-same zero xs ys l m p q f g e = leaf-same xs ys l m p q f g e
cell-same (suc level) xs ys l m p q f g e = inner-same level xs ys l m p q f g e

-- the first n slots, one behind another
cells-same : (level n : ℕ) (xs ys : List ℕ) → n ≤ 32 → ((i : ℕ) → i < 32 → take (cell_width level) (drop (cell_start level i) xs) ≡ take (cell_width level) (drop (cell_start level i) ys))
    → take (cell_width level * n) (drop 16 xs) ≡ take (cell_width level * n) (drop 16 ys)
cells-same level zero xs ys l each =
    let none : cell_width level * 0 ≡ 0 = omega arith in
    ap (λ (k : ℕ). take k (drop 16 xs)) none ∙ sym (ap (λ (k : ℕ). take k (drop 16 ys)) none)
cells-same level (suc n) xs ys l each =
    let more : cell_width level * suc n ≡ cell_width level * n + cell_width level = omega arith in
    ap (λ (k : ℕ). take k (drop 16 xs)) more
    ∙ split 16 (cell_width level * n) (cell_width level) xs ys (cells-same level n xs ys (omega arith) each) (each n (omega arith))
    ∙ sym (ap (λ (k : ℕ). take k (drop 16 ys)) more)

pub start-fits : (level i : ℕ) → i < 32 → cell_start level i + cell_width level ≤ 4096
start-fits zero i l = omega arith
start-fits (suc level) i l = omega arith

last-fits : (level : ℕ) → 16 + cell_width level * 32 ≤ 4096
last-fits zero = omega arith
last-fits (suc level) = omega arith

-- the bytes of a slot are as many as its width
cell-long : (level i : ℕ) (page : List ℕ) → i < 32 → length page ≡ 4096 → length (take (cell_width level) (drop (cell_start level i) page)) ≡ cell_width level
cell-long level i page l long =
    let fits = start-fits level i l in
    length-take-le (cell_width level) (drop (cell_start level i) page) (omega (arith, length-drop (cell_start level i) page))

-- what the two pages have in common
record AreSame (a b : List ℕ) : Type 0 where
  first : is_form a ≡ true
  second : is_form b ≡ true
  first_bytes : AreBytes a
  second_bytes : AreBytes b
  node : node_of a ≡ node_of b

same-level : (a b : List ℕ) → AreSame a b → level_in a ≡ level_in b
same-level a b s = ap (λ (v : NodeView). v.level) (sym (form-node a s.first) ∙ s.node ∙ form-node b s.second)

same-stored : (a b : List ℕ) → AreSame a b → stored_in a ≡ stored_in b
same-stored a b s = ap (λ (v : NodeView). v.slots) (sym (form-node a s.first) ∙ s.node ∙ form-node b s.second)

same-mask : (a b : List ℕ) → AreSame a b → mask_of a ≡ mask_of b
same-mask a b s =
    let long = (form-parts a s.first).long in
    let its_long = (form-parts b s.second).long in
    same_from_bits_below 32 (mask_of a) (mask_of b) (number-fits 4 a s.first_bytes (omega arith)) (number-fits 4 b s.second_bytes (omega arith))
    (λ i l. slot-bit a i l ∙ ap (λ (t : Slots). got one (t i)) (same-stored a b s) ∙ sym (slot-bit b i l))

same-cell : (a b : List ℕ) → AreSame a b → (i : ℕ) → i < 32 → take (cell_width (level_in a)) (drop (cell_start (level_in a) i) a) ≡ take (cell_width (level_in a)) (drop (cell_start (level_in a) i) b)
unfolding cell_at
same-cell a b s i l =
    let f = form-parts a s.first in
    let g = form-parts b s.second in
    let level = same-level a b s in
    let used : is_used a i ≡ is_used b i = ap (λ (n : ℕ). bit_at n i == 1) (same-mask a b s) in
    let its : take (cell_width (level_in b)) (drop (cell_start (level_in b) i) b) ≡ take (cell_width (level_in a)) (drop (cell_start (level_in a) i) b) =
    ap (λ (n : ℕ). take (cell_width n) (drop (cell_start n i) b)) (sym level) in
    let long = cell-long (level_in a) i a l f.long in
    let its_long = cell-long (level_in a) i b l g.long in
    ⊎_elim
    (λ (t : is_used a i ≡ true).
    let item : Some (item_at a i) ≡ Some (item_at b i) = sym (stored-used a i l t) ∙ ap (λ (x : Slots). x i) (same-stored a b s) ∙ stored-used b i l (sym used ∙ t) in
    cell-same (level_in a) _ _ long its_long (bytes-part (cell_start (level_in a) i) (cell_width (level_in a)) a s.first_bytes) (bytes-part (cell_start (level_in a) i) (cell_width (level_in a)) b s.second_bytes)
    (f.values i l t)
    (ap (has_form (level_in a)) (sym its) ∙ ap (λ (n : ℕ). has_form n (take (cell_width (level_in b)) (drop (cell_start (level_in b) i) b))) level ∙ g.values i l (sym used ∙ t))
    (cc item ∙ ap (λ (n : ℕ). item_in n (take (cell_width (level_in b)) (drop (cell_start (level_in b) i) b))) (sym level) ∙ ap (item_in (level_in a)) its))
    (λ (u : is_used a i ≡ false).
    clear-same _ _ (long ∙ sym its_long) (f.clear.unused i l u) (ap are_zero (sym its) ∙ g.clear.unused i l (sym used ∙ u)))
    (cases_Bool (is_used a i))

-- two pages of bytes that stand for the same node are the same
pub page-same : (a b : List ℕ) → is_form a ≡ true → is_form b ≡ true → AreBytes a → AreBytes b → node_of a ≡ node_of b → a ≡ b
page-same a b first second first_bytes second_bytes node =
    let s : AreSame a b = record { first = first; second = second; first_bytes = first_bytes; second_bytes = second_bytes; node = node } in
    let f = form-parts a first in
    let g = form-parts b second in
    let level = same-level a b s in
    let fits = last-fits (level_in a) in
    let kind : take 1 (drop 0 a) ≡ take 1 (drop 0 b) = one_same 0 (omega arith) (omega arith) (f.kind ∙ sym g.kind) in
    let level_byte : take 1 (drop 1 a) ≡ take 1 (drop 1 b) = one_same 1 (omega arith) (omega arith) level in
    let two : take 2 (drop 2 a) ≡ take 2 (drop 2 b) = clear-same _ _ (part_long 2 2 a (omega arith) ∙ sym (part_long 2 2 b (omega arith))) f.clear.two g.clear.two in
    let mask : take 4 (drop 4 a) ≡ take 4 (drop 4 b) = number-same 4 a b first_bytes second_bytes (omega arith) (omega arith) (same-mask a b s) in
    let eight : take 8 (drop 8 a) ≡ take 8 (drop 8 b) = clear-same _ _ (part_long 8 8 a (omega arith) ∙ sym (part_long 8 8 b (omega arith))) f.clear.eight g.clear.eight in
    let head : take 16 (drop 0 a) ≡ take 16 (drop 0 b) = split 0 8 8 a b (split 0 4 4 a b (split 0 2 2 a b (split 0 1 1 a b kind level_byte) two) mask) eight in
    let cells = cells-same (level_in a) 32 a b (omega arith) (same-cell a b s) in
    let front : take (cell_start (level_in a) 32) (drop 0 a) ≡ take (cell_start (level_in a) 32) (drop 0 b) = split 0 16 (cell_width (level_in a) * 32) a b head cells in
    let its_rest : are_zero (drop (cell_start (level_in a) 32) b) ≡ true = ap (λ (n : ℕ). are_zero (drop (cell_start n 32) b)) level ∙ g.clear.rest in
    let long : length (drop (cell_start (level_in a) 32) a) ≡ length (drop (cell_start (level_in a) 32) b) =
    length-drop (cell_start (level_in a) 32) a ∙ ap (λ (n : ℕ). n - cell_start (level_in a) 32) (f.long ∙ sym g.long) ∙ sym (length-drop (cell_start (level_in a) 32) b) in
    parts-same (cell_start (level_in a) 32) a b front (clear-same _ _ long f.clear.rest its_rest)
  where
    part_long : (m n : ℕ) (xs : List ℕ) → m + n ≤ length xs → length (take n (drop m xs)) ≡ n
    part_long m n xs l = length-take-le n (drop m xs) (omega (arith, length-drop m xs))

    one_same : (k : ℕ) → k < length a → k < length b → get_or a k 0 ≡ get_or b k 0 → take 1 (drop k a) ≡ take 1 (drop k b)
    one_same k l m e = ap (take 1) (drop-cons a k 0 l) ∙ ap (λ (n : ℕ). n ∷ []) e ∙ sym (ap (take 1) (drop-cons b k 0 m))
