-- Keys: texts and automatic numbers, their order, and the 66 bytes that a page or a comparison holds.
use Rattle.std.specs.Prelude.{◌≡◌, ℕ, ◌-◌, ◌<◌, ◌≤◌, ◌^◌, ◌==◌, if◌then◌else◌, List, [], ◌∷◌, ◌++◌, length, take, drop, replicate, slice_index, Option, Some, None, IsUtf8}
use Rattle.std.specs.Int.{w64, to_be_bytes, from_be_bytes}
use Rattle.std.proofs.Common.{refl, ap}
use Rattle.std.specs.declared.cmp.Ordering.{Ordering}
use Rattle.std.specs.declared.cmp.Ordering.TheVariants.{Less, Equal, Greater}
use Rattle.std.specs.FinMap.{nat_cmp-IsAntisymmetric, slice_cmp-IsAntisymmetric}
use Rattle.std.specs.Ordering.{on, then_cmp, nat_cmp, ordering_then}
use Rattle.std.specs.Cmp.{IsTotalOrder}
use Rattle.std.specs.Cmp.Lexicographic.{slice_cmp}
use Rattle.std.proofs.lemmas.Cmp.{then_total, on_total, nat_cmp_total, nat_list_cmp_total}

-- the bytes of a text, or an automatic number
pub data Name : Type 0 where
  Text : List ℕ → Name
  Auto : ℕ → Name

-- a text of 1 to 64 bytes of UTF-8, or any u64
abbrev pub IsName : Name → Type 0
IsName (Text bytes) = (0 < length bytes) × (length bytes ≤ 64) × IsUtf8 bytes
IsName (Auto serial) = serial < 2 ^ 64

-- the text of a key that has one
abbrev pub text_of : Name → Option (List ℕ)
text_of (Text bytes) = Some bytes
text_of (Auto serial) = None

-- the number of an automatic key
abbrev pub serial_of : Name → Option ℕ
serial_of (Text bytes) = None
serial_of (Auto serial) = Some serial

-- texts stand before automatic keys
abbrev pub kind_of : Name → ℕ
kind_of (Text bytes) = 0
kind_of (Auto serial) = 1

-- the bytes by which a text key is ordered
abbrev pub bytes_of : Name → List ℕ
bytes_of (Text bytes) = bytes
bytes_of (Auto serial) = []

-- the number by which an automatic key is ordered
abbrev pub number_of : Name → ℕ
number_of (Text bytes) = 0
number_of (Auto serial) = serial

-- texts first, by their bytes, a proper prefix before what it begins; then automatic keys, by number
abbrev pub key_cmp : Name → Name → Ordering
key_cmp = then_cmp (on kind_of nat_cmp) (then_cmp (on bytes_of (slice_cmp nat_cmp)) (on number_of nat_cmp))

pub key_cmp_total : IsTotalOrder key_cmp
key_cmp_total = then_total (on_total kind_of nat_cmp_total) (then_total (on_total bytes_of nat_list_cmp_total) (on_total number_of nat_cmp_total))

-- the first of two orders ties, and so does the second
pub both_tie : (a b : Ordering) → ordering_then a b ≡ Equal → (a ≡ Equal) × (b ≡ Equal)
both_tie Equal b h = (refl, h)
both_tie Less b h = absurd (cc)
both_tie Greater b h = absurd (cc)

-- only the same key ties
pub key_cmp_same : (a b : Name) → key_cmp a b ≡ Equal → a ≡ b
key_cmp_same (Text xs) (Text ys) e = ap Text (slice_cmp-IsAntisymmetric nat_cmp-IsAntisymmetric xs ys (both_tie _ _ e).0)
key_cmp_same (Text xs) (Auto n) e = absurd (cc)
key_cmp_same (Auto m) (Text ys) e = absurd (cc)
key_cmp_same (Auto m) (Auto n) e = ap Auto (nat_cmp-IsAntisymmetric m n e)

-- bytes, and zeros behind them up to a width
abbrev pub padded : ℕ → List ℕ → List ℕ
padded width bytes = bytes ++ replicate (width - length bytes) 0

-- the 66 bytes of a key: its kind, its text or number, and its length
abbrev pub form_of : Name → List ℕ
form_of (Text bytes) = 0 ∷ padded 64 bytes ++ length bytes ∷ []
form_of (Auto serial) = 1 ∷ padded 64 (to_be_bytes w64 serial) ++ 8 ∷ []

-- these bytes are a key's
abbrev pub IsKeyForm : List ℕ → Type 0
IsKeyForm bytes = (name : Name) × IsName name × (bytes ≡ form_of name)

-- the key whose form the bytes are
abbrev pub name_in : List ℕ → Name
name_in bytes =
    if slice_index bytes 0 == 0
    then Text (take (slice_index bytes 65) (drop 1 bytes))
    else Auto (from_be_bytes w64 (take 8 (drop 1 bytes)))
