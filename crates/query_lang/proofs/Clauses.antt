-- How expressions are read, step by step.
use Rattle.std.proofs.Common.{◌≡◌, ◌-◌, ℕ, zero, suc, List, Some, None, Result, Ok, Err, Bor, codes, refl, sym, ap, subst, arith}
use Rattle.line_tokens.specs.Token.{Token, token_of}
use Rattle.query_replies.specs.declared.fault.LineFault.{LineFault}
use Rattle.query_replies.specs.declared.fault.LineFault.TheVariants.{Missing}
use Rattle.query_lang.specs.declared.clause.Clause.{Clause}
use Rattle.query_lang.specs.Reader.{Reader, Answers}
use Rattle.query_lang.specs.Expression.{kind_of, behind_kind, next_level, behind_word, more_joined, join_next, conjunction, expression, both, either, negated, denied, closed, enclosed, factor, plain_clause}

-- what is read is this
abbrev pub Says : Result (Clause × Bor (List ℕ)) LineFault → Result (Clause × List ℕ) LineFault → Type 0
Says result wanted = Answers {A = Clause × Bor (List ℕ)} {B = Clause × List ℕ} (λ got. (plain_clause got.0, got.1.now)) result wanted

-- a T begins with an F
pub conjunction_step : (item : ℕ → Reader Clause) (words : ℕ) (text rest : List ℕ) (one : Clause) (result : Result (Clause × Bor (List ℕ)) LineFault) → item words text ≡ Ok (one, rest)
    → Says result (more_joined 64 (codes "and") item both one rest) → Says result (conjunction item words text)
unfolding conjunction
conjunction_step item words text rest one result e h = rw e h

pub conjunction_err : (item : ℕ → Reader Clause) (words : ℕ) (text : List ℕ) (fault : LineFault) → item words text ≡ Err fault → conjunction item words text ≡ Err fault
unfolding conjunction
conjunction_err item words text fault e = rw e refl

-- an E begins with a T
pub expression_step : (item : ℕ → Reader Clause) (words : ℕ) (text rest : List ℕ) (one : Clause) (result : Result (Clause × Bor (List ℕ)) LineFault) → conjunction item words text ≡ Ok (one, rest)
    → Says result (more_joined 64 (codes "or") (conjunction item) either one rest) → Says result (expression item words text)
unfolding expression
expression_step item words text rest one result e h = rw e h

pub expression_err : (item : ℕ → Reader Clause) (words : ℕ) (text : List ℕ) (fault : LineFault) → conjunction item words text ≡ Err fault → expression item words text ≡ Err fault
unfolding expression
expression_err item words text fault e = rw e refl

-- `not` and an F
pub denied_step : (item : ℕ → Reader Clause) (words : ℕ) (text rest : List ℕ) (one clause : Clause) → item words text ≡ Ok (one, rest) → clause ≡ negated one → denied item words text ≡ Ok (clause, rest)
unfolding denied
denied_step item words text rest one clause e is = rw e (ap (λ (x : Clause). Ok (x, rest)) (sym is))

pub denied_err : (item : ℕ → Reader Clause) (words : ℕ) (text : List ℕ) (fault : LineFault) → item words text ≡ Err fault → denied item words text ≡ Err fault
unfolding denied
denied_err item words text fault e = rw e refl

-- an E in parentheses
pub enclosed_step : (item : ℕ → Reader Clause) (words : ℕ) (text rest : List ℕ) (one : Clause) (result : Result (Clause × Bor (List ℕ)) LineFault) → expression item words text ≡ Ok (one, rest)
    → Says result (closed one rest) → Says result (enclosed item words text)
unfolding enclosed
enclosed_step item words text rest one result e h = rw e h

pub enclosed_err : (item : ℕ → Reader Clause) (words : ℕ) (text : List ℕ) (fault : LineFault) → expression item words text ≡ Err fault → enclosed item words text ≡ Err fault
unfolding enclosed
enclosed_err item words text fault e = rw e refl

-- a next item is joined
pub join_step : (left : ℕ) (sign : List ℕ) (item : ℕ → Reader Clause) (join : Clause → Clause → Clause) (one other clause : Clause) (text rest : List ℕ) (result : Result (Clause × Bor (List ℕ)) LineFault)
    → item one.words text ≡ Ok (other, rest) → clause ≡ join one other → Says result (more_joined left sign item join clause rest) → Says result (join_next left sign item join one text)
join_step left sign item join one other clause text rest result e is h =
    rw e (subst (λ (x : Clause). Says result (more_joined left sign item join x rest)) is h)

pub join_err : (left : ℕ) (sign : List ℕ) (item : ℕ → Reader Clause) (join : Clause → Clause → Clause) (one : Clause) (text : List ℕ) (fault : LineFault)
    → item one.words text ≡ Err fault → join_next left sign item join one text ≡ Err fault
join_err left sign item join one text fault e = rw e refl

-- no sign, or none left
pub more_zero : (left : ℕ) (sign : List ℕ) (item : ℕ → Reader Clause) (join : Clause → Clause → Clause) (one : Clause) (text : List ℕ) → left ≡ 0 → more_joined left sign item join one text ≡ Ok (one, text)
unfolding more_joined
more_zero left sign item join one text is = rw is refl

pub more_none : (left : ℕ) (sign : List ℕ) (item : ℕ → Reader Clause) (join : Clause → Clause → Clause) (one : Clause) (text : List ℕ) → behind_word sign (token_of text) ≡ None
    → more_joined left sign item join one text ≡ Ok (one, text)
unfolding more_joined
more_none zero sign item join one text e = refl
more_none (suc left) sign item join one text e = rw e refl

-- a sign
pub more_step : (left : ℕ) (sign : List ℕ) (item : ℕ → Reader Clause) (join : Clause → Clause → Clause) (one : Clause) (text rest : List ℕ) (result : Result (Clause × Bor (List ℕ)) LineFault)
    → (left ≡ 0 → ⊥) → behind_word sign (token_of text) ≡ Some rest → Says result (join_next (left - 1) sign item join one rest) → Says result (more_joined left sign item join one text)
unfolding more_joined
more_step zero sign item join one text rest result some e h = absurd (some refl)
more_step (suc left) sign item join one text rest result some e h =
    let same : suc left - 1 ≡ left = omega arith in
    rw e (subst (λ (n : ℕ). Says result (join_next n sign item join one rest)) same h)

-- an F begins with a token
pub factor_step : (levels words : ℕ) (text rest : List ℕ) (token : Token) (result : Result (Clause × Bor (List ℕ)) LineFault) → token_of text ≡ Some (token, rest)
    → Says result (behind_kind (next_level levels) words (kind_of token) rest) → Says result (factor levels words text)
unfolding factor
factor_step zero words text rest token result e h = rw e h
factor_step (suc levels) words text rest token result e h = rw e h

pub factor_end : (levels words : ℕ) (text : List ℕ) (fault : LineFault) → (fault ≡ Missing) × (token_of text ≡ None) → factor levels words text ≡ Err fault
unfolding factor
factor_end zero words text fault (is, e) = rw (e, is) refl
factor_end (suc levels) words text fault (is, e) = rw (e, is) refl

pub next_none : (levels : ℕ) → levels ≡ 0 → next_level levels ≡ None
next_none levels is = rw is refl
