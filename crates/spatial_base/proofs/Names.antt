-- What may be a key is known of every key.
use Rattle.std.proofs.Common.{◌≡◌, ℕ, List, take, drop, get_or, subst, refl}
use Rattle.std.specs.Prelude.{IsUtf8}
use Rattle.std.proofs.Props.{props}
use mathlib.Core.Logic.{∥∥₁_elim}
use Rattle.spatial_base.specs.Key.{Name, Text, Auto, IsName, name_in}

IsName-prop : (name : Name) → IsProp (IsName name)
IsName-prop (Text bytes) = hlevel props
IsName-prop (Auto serial) = hlevel props

-- that a name may be a key is one fact
pub IsName-had : (name : Name) → ∥ IsName name ∥₁ → IsName name
IsName-had name h = ∥∥₁_elim h (IsName-prop name) (λ k. k)

-- bytes of kind 0 are a text's
text_in : (bytes : List ℕ) → get_or bytes 0 0 ≡ 0 → name_in bytes ≡ Text (take (get_or bytes 65 0) (drop 1 bytes))
text_in bytes z = rw z refl

-- so the bytes of a key of kind 0 hold a text
pub utf8_in : (bytes : List ℕ) (n : ℕ) → get_or bytes 0 0 ≡ 0 → ∥ IsName (name_in bytes) ∥₁ → n ≡ get_or bytes 65 0 → IsUtf8 (take n (drop 1 bytes))
utf8_in bytes n z h e =
    let name : IsName (Text (take (get_or bytes 65 0) (drop 1 bytes))) = subst IsName (text_in bytes z) (IsName-had (name_in bytes) h) in
    rw e name.2
