-- Bytes that grow, part by part.
use Rattle.std.proofs.Common.{◌≡◌, ℕ, ◌+◌, ◌<◌, List, ◌∷◌, ◌++◌, length, drop, get_or, sym, ap, ◌∙◌, append_assoc}
use Rattle.std.proofs.lemmas.List.{drop_more}
use Rattle.query_replies.specs.Lines.{ranked_line, ranked_lines}
use Rattle.query_replies.specs.Written.{Extends}

-- what extends an extension extends
pub Extends-on : (old middle new : List ℕ) → Extends old middle → Extends middle new → Extends old new
Extends-on old middle new first then =
    (first.0 ++ then.0, then.1 ∙ ap (λ bytes. bytes ++ then.0) first.1 ∙ append_assoc old first.0 then.0)

-- the next of the items that are left
pub items_left : {X : Type 0} (items : List X) (at : ℕ) (item : X) → at < length items → item ≡ get_or items at item → drop at items ≡ item ∷ drop (at + 1) items
items_left {X} items at item within is = drop_more items at item within ∙ ap (λ (next : X). next ∷ drop (at + 1) items) (sym is)

-- a line more is written, and a line less is left
pub line_written : {X : Type 0} (said : X → List ℕ) (rank : ℕ) (item : X) (left : List X) (out new whole : List ℕ) → new ≡ out ++ ranked_line said rank item
    → out ++ ranked_lines said rank (item ∷ left) ≡ whole → new ++ ranked_lines said (rank + 1) left ≡ whole
line_written said rank item left out new whole line all =
    ap (λ bytes. bytes ++ ranked_lines said (rank + 1) left) line ∙ append_assoc out (ranked_line said rank item) (ranked_lines said (rank + 1) left) ∙ all
