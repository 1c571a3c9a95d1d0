-- Items that are sorted in one by one.
use Rattle.std.proofs.Common.{◌≡◌, ℕ, ◌+◌, ◌<◌, ◌≤◌, List, [], ◌∷◌, ◌++◌, length, take, get_or, Option, sym, ap, ◌∙◌, append_assoc, IsPermutation}
use Rattle.std.specs.Prelude.{Result, Ok, Err, OnOk}
use Rattle.std.specs.List.{flat_map}
use Rattle.std.proofs.lemmas.Grind.{flat_map-append}
use Rattle.std.proofs.lemmas.List.{take_more, append-nil}
use Rattle.std.proofs.lemmas.List.Sorted.{IsPermutation-middle, IsPermutation-cons, IsPermutation-trans}
use Rattle.place_values.specs.First.{first, IsRanked}
use Rattle.place_values.specs.declared.hit.Hit.{Hit}
use Rattle.place_values.specs.Hit.{comes_before}
use Rattle.best_first.specs.declared.item.Item.{Item}
use Rattle.best_first.specs.declared.item.Item.TheVariants.{Node, Place}
use Rattle.best_first.specs.Items.{node_alone, place_alone, nodes_of, places_of}
use Rattle.best_first.specs.Cuts.{affordable}
use Rattle.best_first.proofs.Firsts.{first_own, first_absorbed}
use Rattle.best_first.proofs.Limits.{affordable-parts}

-- what holds at any rate holds where the answer is Ok
pub ok_always : {A B : Type 0} (r : Result A B) (P : Type 0) → P → OnOk r P
ok_always (Ok a) P p = p
ok_always (Err e) P p = tt

-- what follows from it holds there, too
pub ok_then : {A B : Type 0} (r : Result A B) (P Q : Type 0) → (P → Q) → OnOk r P → OnOk r Q
ok_then (Ok a) P Q f p = f p
ok_then (Err e) P Q f p = tt

-- what one more item gives
pub flat_more : {X Y : Type 0} (f : X → List Y) (xs : List X) (i : ℕ) (d : X) → i < length xs → flat_map f (take (i + 1) xs) ≡ flat_map f (take i xs) ++ f (get_or xs i d)
flat_more f xs i d l = ap (flat_map f) (take_more xs i d l) ∙ flat_map-append f (take i xs) (get_or xs i d ∷ []) ∙ ap (λ x. flat_map f (take i xs) ++ x) (append-nil (f (get_or xs i d)))

-- before the first item
pub found_begun : (k : ℕ) (found : List Hit) → IsRanked comes_before found → length found ≤ k → found ≡ first comes_before k (found ++ [])
found_begun k found r l = sym (ap (first comes_before k) (append-nil found) ∙ first_own k found r l)

-- one more item among the best k
pub found_more : (k : ℕ) (limit : Option ℕ) (items : List Item) (i : ℕ) (d item : Item) (old now new : List Hit) → i < length items → item ≡ get_or items i d → now ≡ first comes_before k (old ++ affordable limit (places_of (take i items))) → new ≡ first comes_before k (now ++ affordable limit (place_alone item))
    → new ≡ first comes_before k (old ++ affordable limit (places_of (take (i + 1) items)))
found_more k limit items i d item old now new l e p q =
    let ps = places_of (take i items) in
    let one = affordable limit (place_alone item) in
    let more : affordable limit (places_of (take (i + 1) items)) ≡ affordable limit ps ++ one =
    ap (affordable limit) (flat_more place_alone items i d l ∙ ap (λ x. ps ++ place_alone x) (sym e)) ∙ affordable-parts limit ps (place_alone item) in
    q
    ∙ ap (λ x. first comes_before k (x ++ one)) p
    ∙ first_absorbed k (old ++ affordable limit ps) one
    ∙ ap (first comes_before k) (append_assoc old (affordable limit ps) one ∙ ap (λ x. old ++ x) (sym more))

moved_one : (ns old now new : List Item) (item : Item) → IsPermutation (ns ++ old) now → IsPermutation (node_alone item ++ now) new → IsPermutation ((ns ++ node_alone item) ++ old) new
moved_one ns old now new (Node page level bound) p q =
    let n = Node page level bound in
    rw (append_assoc ns (n ∷ []) old) (IsPermutation-trans _ _ _ (IsPermutation-middle ns n old) (IsPermutation-trans _ _ _ (IsPermutation-cons n _ _ p) q))
moved_one ns old now new (Place hit) p q = rw (append-nil ns) (IsPermutation-trans _ _ _ p q)

-- one more item in the queue
pub queue_more : (items : List Item) (i : ℕ) (d item : Item) (old now new : List Item) → i < length items → item ≡ get_or items i d → IsPermutation (nodes_of (take i items) ++ old) now → IsPermutation (node_alone item ++ now) new → IsPermutation (nodes_of (take (i + 1) items) ++ old) new
queue_more items i d item old now new l e p q =
    rw (flat_more node_alone items i d l, ← e) (moved_one (nodes_of (take i items)) old now new item p q)
