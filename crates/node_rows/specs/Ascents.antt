-- A node's rows gone through word by word.
use Rattle.std.specs.Prelude.{ℕ, suc, ◌-◌, ◌^◌, Option, Some, None, ◌==◌, if◌then◌else◌, nat_lt}
use Rattle.node_rows.specs.Rows.{Bytes}

-- the words below k are done, the others are as before
abbrev pub until : ℕ → Bytes → Bytes → Bytes
until k new old n w i = if nat_lt w k then new n w i else old n w i

-- one word is done
abbrev pub on_word : ℕ → Bytes → Bytes → Bytes
on_word word new old n w i = if w == word then new n w i else old n w i

-- the word that is next, or the end
abbrev pub reached : Option ℕ → ℕ
reached None = 2 ^ 64
reached (Some word) = word

-- how many words are left
abbrev pub left_from : Option ℕ → ℕ
left_from None = 0
left_from (Some word) = suc (2 ^ 64 - word)
