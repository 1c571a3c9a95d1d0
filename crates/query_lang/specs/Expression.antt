-- Expressions of a line: E is one or more T joined by `or`; T is one or more F joined by `and`; F is `not F`, `( E )` or
-- a word. There are at most 32 levels of `not` and parentheses, and 64 words.
use Rattle.std.specs.Prelude.{ℕ, zero, suc, ◌+◌, nat_le, if◌then◌else◌, List, codes, Option, Some, None, Result, Ok, Err}
use Rattle.std.specs.Str.{bytes_eq}
use Rattle.place_values.specs.declared.query.Expr.{Expr}
use Rattle.place_values.specs.declared.query.Expr.TheVariants.{Has, Not, And, Or}
use Rattle.term_impacts.specs.Text.{words_of, only}
use Rattle.line_tokens.specs.Token.{Token, Bare, Quoted, Open, Close, Broken, token_of}
use Rattle.query_replies.specs.declared.fault.LineFault.{LineFault}
use Rattle.query_replies.specs.declared.fault.LineFault.TheVariants.{Missing, Word, Expression, Extra}
use Rattle.query_lang.specs.declared.clause.Clause.{Clause}
use Rattle.query_lang.specs.Reader.{Reader, ◌>>=◌, gives, part, at_end, is_word, followed}
use Rattle.query_lang.specs.Plain.{boxed, plain}

-- What a token may be within an expression.
pub data Kind : Type 0 where
  Named : List ℕ → Kind
  NotSign : Kind
  OpenSign : Kind
  CloseSign : Kind
  Other : Kind

-- `or`, `and` and `not` are words only where they are quoted
abbrev pub kind_of : Token → Kind
kind_of (Bare bytes) =
    if bytes_eq bytes (codes "or") then Other
    else if bytes_eq bytes (codes "and") then Other
    else if bytes_eq bytes (codes "not") then NotSign
    else Named bytes
kind_of (Quoted bytes) = Named bytes
kind_of Open = OpenSign
kind_of Close = CloseSign
kind_of Broken = Other

-- a word, where so many were named before
abbrev pub has_word : ℕ → Option (List ℕ) → Result Clause LineFault
has_word words None = Err Word
has_word words (Some word) = Ok record { expr = Has word; words = words + 1 }

-- the 65th word is refused before it is looked at
abbrev pub named : ℕ → List ℕ → Result Clause LineFault
named words bytes = if nat_le 64 words then Err Expression else has_word words (only (words_of bytes))

-- the clause denied
abbrev pub negated : Clause → Clause
negated clause = record { expr = Not (boxed clause.expr); words = clause.words }

-- two clauses that both have to be met
abbrev pub both : Clause → Clause → Clause
both one other = record { expr = And (boxed one.expr) (boxed other.expr); words = other.words }

-- two clauses of which one has to be met
abbrev pub either : Clause → Clause → Clause
either one other = record { expr = Or (boxed one.expr) (boxed other.expr); words = other.words }

-- the text behind a bare word, where that is the next token
abbrev pub behind_word : List ℕ → Option (Token × List ℕ) → Option (List ℕ)
behind_word word None = None
behind_word word (Some found) = if is_word word found.0 then Some found.1 else None

-- what is done behind it, or where it doesn't stand there
abbrev pub if_behind : {A : Type 0} → (List ℕ → A) → A → Option (List ℕ) → A
if_behind go stay None = stay
if_behind go stay (Some rest) = go rest

-- further items, each behind the sign that joins it to what stands before, at most so many
unfoldable pub more_joined : ℕ → List ℕ → (ℕ → Reader Clause) → (Clause → Clause → Clause) → Clause → Reader Clause
more_joined zero sign item join one text = Ok (one, text)
more_joined (suc left) sign item join one text =
    if_behind (item one.words >>= (λ other. more_joined left sign item join (join one other))) (Ok (one, text)) (behind_word sign (token_of text))

-- what stands before joined to the next item, and at most so many further ones
abbrev pub join_next : ℕ → List ℕ → (ℕ → Reader Clause) → (Clause → Clause → Clause) → Clause → Reader Clause
join_next left sign item join one = item one.words >>= (λ other. more_joined left sign item join (join one other))

-- one item, or several joined from the left; each has a word, so there are at most 64
abbrev pub joined : List ℕ → (ℕ → Reader Clause) → (Clause → Clause → Clause) → ℕ → Reader Clause
joined sign item join words = item words >>= more_joined 64 sign item join

-- T, of items F
unfoldable pub conjunction : (ℕ → Reader Clause) → ℕ → Reader Clause
conjunction item words text = joined (codes "and") item both words text

-- E, of items F
unfoldable pub expression : (ℕ → Reader Clause) → ℕ → Reader Clause
expression item words text = joined (codes "or") (conjunction item) either words text

-- the parenthesis that closes
abbrev pub closing : Kind → Result (Unit {0}) LineFault
closing (Named bytes) = Err Expression
closing NotSign = Err Expression
closing OpenSign = Err Expression
closing CloseSign = Ok tt
closing Other = Err Expression

-- what stands behind `not`: F, denied
unfoldable pub denied : (ℕ → Reader Clause) → ℕ → Reader Clause
denied item words text = (item words >>= (λ clause. gives (negated clause))) text

-- a clause and the parenthesis that closes
abbrev pub closed : Clause → Reader Clause
closed clause = part (λ token. closing (kind_of token)) >>= (λ _. gives clause)

-- what stands behind a parenthesis: E, and the parenthesis that closes
unfoldable pub enclosed : (ℕ → Reader Clause) → ℕ → Reader Clause
enclosed item words text = (expression item words >>= closed) text

-- what is read on the next level, where there may be one
abbrev pub if_deeper : {A B : Type 0} → (A → Result B LineFault) → Option A → Result B LineFault
if_deeper go None = Err Expression
if_deeper go (Some item) = go item

-- what stands behind a token of this kind, with these items on the next level
abbrev pub behind_kind : Option (ℕ → Reader Clause) → ℕ → Kind → Reader Clause
behind_kind deeper words (Named bytes) text = followed text (named words bytes)
behind_kind deeper words NotSign text = if_deeper (λ item. denied item words text) deeper
behind_kind deeper words OpenSign text = if_deeper (λ item. enclosed item words text) deeper
behind_kind deeper words CloseSign text = Err Expression
behind_kind deeper words Other text = Err Expression

-- what is done with the next token's kind; missing where the line ends
abbrev pub by_kind : {A : Type 0} → (Kind → List ℕ → Result A LineFault) → Option (Token × List ℕ) → Result A LineFault
by_kind go None = Err Missing
by_kind go (Some found) = go (kind_of found.0) found.1

-- F, with so many levels left
unfoldable pub factor : ℕ → ℕ → Reader Clause
factor zero words text = by_kind (behind_kind None words) (token_of text)
factor (suc levels) words text = by_kind (behind_kind (Some (factor levels)) words) (token_of text)

-- the items on the next level, with so many levels left
abbrev pub next_level : ℕ → Option (ℕ → Reader Clause)
next_level zero = None
next_level (suc levels) = Some (factor levels)

-- the clause, wherever its boxes stand
abbrev pub plain_clause : Clause → Clause
plain_clause clause = record { expr = plain clause.expr; words = clause.words }

-- the filter behind `where`: E, and then the end of the line
abbrev pub condition : List ℕ → Result (Option Expr) LineFault
condition = expression (factor 32) 0 >>= (λ clause. at_end (Some clause.expr))

-- `where` and a filter, or the end of the line
abbrev pub where_or_end : Option (Token × List ℕ) → Result (Option Expr) LineFault
where_or_end None = Ok None
where_or_end (Some found) = if is_word (codes "where") found.0 then condition found.1 else Err Extra

-- the filter that a query ends with, where it has one
unfoldable pub filter_of : List ℕ → Result (Option Expr) LineFault
filter_of text = where_or_end (token_of text)
