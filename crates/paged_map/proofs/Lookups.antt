-- Look-ups by the ways that they went.
use Rattle.std.proofs.Common.{◌≡◌, ℕ, zero, suc, ◌<◌, Bool, true, false, List, [], ◌∷◌, ◌^◌, length, Option, Some, None, is_some, if◌then◌else◌, refl, ap, subst, arith}
use Rattle.std.specs.Bool.{then_some}
use Rattle.page_face.specs.FreeList.{PageMap}
use Rattle.btree_nodes.specs.declared.form.Form.{Form}
use Rattle.btree_nodes.specs.Bounds.{upper_of}
use Rattle.btree_nodes.specs.Rows.{Row, lookup}
use Rattle.btree_nodes.specs.Nodes.{rows_in}
use Rattle.btree_nodes.specs.Ways.{IsWayOf}
use Rattle.paged_map.specs.Lookups.{IsLookedUp, IsFirstPast, IsFirstFound}

pub looked-up : (form : Form) (pages : PageMap) (count root key : ℕ) (found : Option (List ℕ)) (leaf from to : ℕ) → 0 < root → IsWayOf form pages count root key leaf from to → found ≡ lookup key (rows_in form (pages leaf)) → IsLookedUp form pages count root key found
looked-up form pages count zero key found leaf from to some way is = absurd (let z : 0 < 0 = some in omega (arith, z))
looked-up form pages count (suc n) key found leaf from to some way is = (leaf, from, to, way, is)

pub looked-nowhere : (form : Form) (pages : PageMap) (count root key : ℕ) → root ≡ 0 → IsLookedUp form pages count root key None
looked-nowhere form pages count zero key empty = refl
looked-nowhere form pages count (suc n) key empty = absurd (cc)

pub first-found : (form : Form) (pages : PageMap) (count root key : ℕ) (found : Option Row) (keys : List ℕ) → 0 < root → IsFirstPast form pages count root keys key found → IsFirstFound form pages count root key found
first-found form pages count zero key found keys some past = absurd (let z : 0 < 0 = some in omega (arith, z))
first-found form pages count (suc n) key found keys some past = (keys, past)

pub first-nowhere : (form : Form) (pages : PageMap) (count root key : ℕ) → root ≡ 0 → IsFirstFound form pages count root key None
first-nowhere form pages count zero key empty = refl
first-nowhere form pages count (suc n) key empty = absurd (cc)

-- whether there is an answer that a hit gives
pub hit-some : (hit : Bool) (page : ℕ) (answer : Option ℕ) → answer ≡ then_some hit page → is_some answer ≡ hit
hit-some true page answer e = ap is_some e
hit-some false page answer e = ap is_some e

-- no upper bound is the greatest
pub upper-none : (key : ℕ) (bytes : List ℕ) → length bytes ≡ 0 → upper_of key bytes ≡ 256 ^ key
upper-none key [] empty = refl
upper-none key (x ∷ xs) empty = absurd (omega (arith, empty))

-- what a look-up says of a row that it has not found
pub kept-none : {A B : Type 0} (P : ℕ → Option B → Type 0) (n code : ℕ) (value : B) (at : Option A) → n ≡ code → at ≡ None → P n (if is_some at then Some value else None) → P code None
kept-none P n code value at same none kept = subst (λ (k : ℕ). P k None) same (subst (λ o. P n (if is_some o then Some value else None)) none kept)

-- and of one that it has
pub kept-some : {A B : Type 0} (P : ℕ → Option B → Type 0) (n code : ℕ) (value found : B) (at : Option A) (leaf : A) → n ≡ code → at ≡ Some leaf → value ≡ found → P n (if is_some at then Some value else None) → P code (Some found)
kept-some P n code value found at leaf same some is kept =
    subst (λ v. P code (Some v)) is (subst (λ (k : ℕ). P k (Some value)) same (subst (λ o. P n (if is_some o then Some value else None)) some kept))
