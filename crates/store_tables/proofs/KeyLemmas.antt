-- Keys from bytes, and the bytes that follow a key's.
use Rattle.std.proofs.Common.{◌≡◌, ℕ, zero, suc, ◌+◌, ◌*◌, ◌^◌, List, [], ◌∷◌, length, get_or, set, sym, ap, ◌∙◌, arith}
use Rattle.std.proofs.lemmas.List.{length-set}
use Rattle.std.specs.Cmp.{nat_cmp_is}
use Rattle.std.specs.FinMap.{nat_cmp-IsAntisymmetric, slice_cmp-IsAntisymmetric}
use Rattle.std.specs.declared.cmp.Ordering.TheVariants.{Equal}
use Rattle.spatial_base.specs.Key.{Name, IsName, key_cmp_same, form_of}
use Rattle.page_face.specs.Number.{number}
use Rattle.btree_nodes.proofs.Numbers.{AreBytes, compare_numbers}
use Rattle.store_tables.specs.Coded.{key_code}
use Rattle.store_tables.proofs.CodeLemmas.{form-bytes, key-order, length-form_of}

-- bytes of one length that spell one number are the same
pub number-same : (xs ys : List ℕ) → length xs ≡ length ys → AreBytes xs → AreBytes ys → number xs ≡ number ys → xs ≡ ys
number-same xs ys long small also same =
    slice_cmp-IsAntisymmetric nat_cmp-IsAntisymmetric xs ys (compare_numbers xs ys long small also ∙ sym (nat_cmp_is (number xs) (number ys) Equal same))

-- the bytes that spell a key's number are its form
pub form_from_number : (bytes : List ℕ) (key : Name) → length bytes ≡ 66 → AreBytes bytes → IsName key → number bytes ≡ key_code key → bytes ≡ form_of key
unfolding key_code
form_from_number bytes key long small is same = number-same bytes (form_of key) (long ∙ sym (length-form_of key is)) small (form-bytes key is) same

-- one form is one key's
pub form-same : (a b : Name) → IsName a → IsName b → form_of a ≡ form_of b → a ≡ b
unfolding key_code
form-same a b is also same = key_cmp_same a b (key-order a b is also ∙ sym (nat_cmp_is (number (form_of a)) (number (form_of b)) Equal (ap number same)))

-- a last byte that is one more makes the number one more
pub number-behind : (xs : List ℕ) (i : ℕ) → suc i ≡ length xs → number (set xs i (get_or xs i 0 + 1)) ≡ number xs + 1
number-behind [] i e = absurd (omega arith)
number-behind (x ∷ []) zero e = omega arith
number-behind (x ∷ (y ∷ xs)) zero e = absurd (omega arith)
number-behind (x ∷ xs) (suc i) e =
    let long : length (set xs i (get_or xs i 0 + 1)) ≡ length xs = length-set xs i (get_or xs i 0 + 1) in
    let rest = number-behind xs i (omega arith) in
    ap (λ (n : ℕ). x * 256 ^ n + number (set xs i (get_or xs i 0 + 1))) long ∙ (let here = rest in omega arith)
