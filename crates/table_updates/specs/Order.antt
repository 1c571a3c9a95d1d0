-- The order in which a batch's words come.
use Rattle.std.specs.Prelude.{List, [], ◌∷◌, ℕ, fold, if◌then◌else◌}
use Rattle.std.specs.Map.{keys_of}
use Rattle.std.specs.Str.{bytes_eq}
use Rattle.place_values.specs.declared.update.Update.{Update}
use Rattle.store_model.specs.Ahead.{words_put}

-- a word behind others, unless it is one of them
abbrev pub behind : List (List ℕ) → List ℕ → List (List ℕ)
behind [] word = word ∷ []
behind (first ∷ words) word = if bytes_eq word first then first ∷ words else first ∷ behind words word

-- the words that updates put, each once, in the order in which they first come
abbrev pub in_order : List Update → List (List ℕ)
in_order updates = fold (λ words update. fold behind words (keys_of (words_put update))) [] updates
