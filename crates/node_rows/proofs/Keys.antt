-- Keys of the rows' map as numbers.
use Rattle.std.proofs.Common.{◌≡◌, ℕ, ◌^◌, ◌<◌, List, [], ◌∷◌, ◌++◌, length, slice_index_or, arith, ap, ◌∙◌}
use Rattle.std.specs.Int.{byte_at, from_be_bytes, to_be_bytes, w32, w64}
use Rattle.std.proofs.lemmas.Nat.{from_be_bytes-to_be_bytes_4, from_be_bytes-to_be_bytes_8}
use Rattle.page_face.specs.Number.{number}
use Rattle.node_rows.specs.Rows.{key_of}

-- twelve bytes are the number of the first four, and behind it that of the last eight
pub twelve_bytes : (a b c d e f g h i j k l : ℕ)
    → number (a ∷ (b ∷ (c ∷ (d ∷ (e ∷ (f ∷ (g ∷ (h ∷ (i ∷ (j ∷ (k ∷ (l ∷ [])))))))))))) ≡ key_of (from_be_bytes w32 (a ∷ (b ∷ (c ∷ (d ∷ []))))) (from_be_bytes w64 (e ∷ (f ∷ (g ∷ (h ∷ (i ∷ (j ∷ (k ∷ (l ∷ [])))))))))
unfolding key_of
twelve_bytes a b c d e f g h i j k l = omega arith

-- the bytes of a node's page and of a word's number are those of their key
pub key-bytes : (node word : ℕ) → node < 2 ^ 32 → word < 2 ^ 64 → number (to_be_bytes w32 node ++ to_be_bytes w64 word) ≡ key_of node word
key-bytes node word few many =
    twelve_bytes (byte_at 3 node) (byte_at 2 node) (byte_at 1 node) (byte_at 0 node)
    (byte_at 7 word) (byte_at 6 word) (byte_at 5 word) (byte_at 4 word) (byte_at 3 word) (byte_at 2 word) (byte_at 1 word) (byte_at 0 word)
    ∙ ap (λ (n : ℕ). key_of n (from_be_bytes w64 (to_be_bytes w64 word))) (from_be_bytes-to_be_bytes_4 node few)
    ∙ ap (λ (m : ℕ). key_of node m) (from_be_bytes-to_be_bytes_8 word many)

-- so are any twelve
pub of-twelve : (xs : List ℕ) → length xs ≡ 12
    → number xs ≡ key_of (from_be_bytes w32 (slice_index_or xs 0 0 ∷ (slice_index_or xs 1 0 ∷ (slice_index_or xs 2 0 ∷ (slice_index_or xs 3 0 ∷ []))))) (from_be_bytes w64 (slice_index_or xs 4 0 ∷ (slice_index_or xs 5 0 ∷ (slice_index_or xs 6 0 ∷ (slice_index_or xs 7 0 ∷ (slice_index_or xs 8 0 ∷ (slice_index_or xs 9 0 ∷ (slice_index_or xs 10 0 ∷ (slice_index_or xs 11 0 ∷ [])))))))))
of-twelve [] long = absurd (omega arith)
of-twelve (a ∷ []) long = absurd (omega arith)
of-twelve (a ∷ (b ∷ [])) long = absurd (omega arith)
of-twelve (a ∷ (b ∷ (c ∷ []))) long = absurd (omega arith)
of-twelve (a ∷ (b ∷ (c ∷ (d ∷ [])))) long = absurd (omega arith)
of-twelve (a ∷ (b ∷ (c ∷ (d ∷ (e ∷ []))))) long = absurd (omega arith)
of-twelve (a ∷ (b ∷ (c ∷ (d ∷ (e ∷ (f ∷ [])))))) long = absurd (omega arith)
of-twelve (a ∷ (b ∷ (c ∷ (d ∷ (e ∷ (f ∷ (g ∷ []))))))) long = absurd (omega arith)
of-twelve (a ∷ (b ∷ (c ∷ (d ∷ (e ∷ (f ∷ (g ∷ (h ∷ [])))))))) long = absurd (omega arith)
of-twelve (a ∷ (b ∷ (c ∷ (d ∷ (e ∷ (f ∷ (g ∷ (h ∷ (i ∷ []))))))))) long = absurd (omega arith)
of-twelve (a ∷ (b ∷ (c ∷ (d ∷ (e ∷ (f ∷ (g ∷ (h ∷ (i ∷ (j ∷ [])))))))))) long = absurd (omega arith)
of-twelve (a ∷ (b ∷ (c ∷ (d ∷ (e ∷ (f ∷ (g ∷ (h ∷ (i ∷ (j ∷ (k ∷ []))))))))))) long = absurd (omega arith)
of-twelve (a ∷ (b ∷ (c ∷ (d ∷ (e ∷ (f ∷ (g ∷ (h ∷ (i ∷ (j ∷ (k ∷ (l ∷ [])))))))))))) long = twelve_bytes a b c d e f g h i j k l
of-twelve (a ∷ (b ∷ (c ∷ (d ∷ (e ∷ (f ∷ (g ∷ (h ∷ (i ∷ (j ∷ (k ∷ (l ∷ (m ∷ rest))))))))))))) long = absurd (omega arith)
