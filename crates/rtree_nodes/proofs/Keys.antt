-- The test of a key's 66 bytes.
use Rattle.std.proofs.Common.{◌≡◌, ℕ, ◌-◌, ◌^◌, true, List, [], ◌∷◌, ◌++◌, length, take, replicate, get_or, arith, refl, sym, ap, ◌∙◌, subst}
use Rattle.std.proofs.lemmas.Bool.{and_parts, and_from, ltb-true, leb-true, lt-ltb, le-leb}
use Rattle.std.proofs.lemmas.Str.{IsUtf8-from_is_utf8, is_utf8-from_IsUtf8}
use Rattle.std.proofs.lemmas.Slice.Eq.{bytes_eq-Decides}
use Rattle.std.proofs.lemmas.List.{take_at, get_or_at, length-append, length-replicate, append_assoc}
use Rattle.std.proofs.lemmas.Nat.{from_be_bytes-to_be_bytes_8}
use Rattle.spatial_base.specs.Key.{Name, Text, Auto, IsName, IsKeyForm, padded, form_of, name_in}
use Rattle.rtree_nodes.specs.Cells.{is_name, is_key_form}

-- the test of a name
name-from : (name : Name) → is_name name ≡ true → IsName name
name-from (Text bytes) h =
    let a = and_parts _ _ h in
    let b = and_parts _ _ a.0 in
    (ltb-true 0 (length bytes) b.0, leb-true (length bytes) 64 b.1, IsUtf8-from_is_utf8 bytes a.1)
name-from (Auto serial) h = ltb-true serial (2 ^ 64) h

name-to : (name : Name) → IsName name → is_name name ≡ true
name-to (Text bytes) h = and_from _ _ (and_from _ _ (lt-ltb 0 (length bytes) h.0) (le-leb (length bytes) 64 h.1)) (is_utf8-from_IsUtf8 bytes h.2)
name-to (Auto serial) h = lt-ltb serial (2 ^ 64) h

-- a key's form has 66 bytes
pub length-form : (name : Name) → IsName name → length (form_of name) ≡ 66
length-form (Text bytes) h =
    let few = h.1 in
    omega (arith, length-append (padded 64 bytes) (length bytes ∷ []), length-append bytes (replicate (64 - length bytes) 0), length-replicate {A = ℕ} (64 - length bytes) 0)
length-form (Auto serial) h = refl

-- and names the key
pub named : (name : Name) → IsName name → name_in (form_of name) ≡ name
named (Text bytes) h =
    let few = h.1 in
    let long : length (padded 64 bytes) ≡ 64 = omega (arith, length-append bytes (replicate (64 - length bytes) 0), length-replicate {A = ℕ} (64 - length bytes) 0) in
    let size : get_or (padded 64 bytes ++ length bytes ∷ []) 64 0 ≡ length bytes = get_or_at (padded 64 bytes) (length bytes) [] 0 64 long in
    ap (λ (n : ℕ). Text (take n (padded 64 bytes ++ length bytes ∷ []))) size
    ∙ ap (λ (l : List ℕ). Text (take (length bytes) l)) (append_assoc bytes (replicate (64 - length bytes) 0) (length bytes ∷ []))
    ∙ ap Text (take_at bytes (replicate (64 - length bytes) 0 ++ length bytes ∷ []) (length bytes) refl)
named (Auto serial) h = ap Auto (from_be_bytes-to_be_bytes_8 serial h)

-- the test passes exactly a key's bytes
pub key-from : (bytes : List ℕ) → is_key_form bytes ≡ true → IsKeyForm bytes
unfolding is_key_form
key-from bytes h =
    let a = and_parts _ _ h in
    (name_in bytes, name-from (name_in bytes) a.0, sym ((bytes_eq-Decides (form_of (name_in bytes)) bytes).0 a.1))

pub form-key : (name : Name) → IsName name → is_key_form (form_of name) ≡ true
unfolding is_key_form
form-key name h =
    let is = named name h in
    and_from _ _
    (name-to (name_in (form_of name)) (subst IsName (sym is) h))
    ((bytes_eq-Decides (form_of (name_in (form_of name))) (form_of name)).1 (ap form_of is))

pub key-to : (bytes : List ℕ) → IsKeyForm bytes → is_key_form bytes ≡ true
key-to bytes k = subst (λ (l : List ℕ). is_key_form l ≡ true) (sym k.2) (form-key k.0 k.1)
