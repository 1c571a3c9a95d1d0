-- What is read as a filter keeps its limits.
use Rattle.std.proofs.Common.{◌≡◌, ◌+◌, ◌≤◌, ◌<◌, ℕ, zero, suc, Bool, true, false, cond, max, List, Option, Some, None, Result, Ok, Err, IfOk, codes, nat_le, refl, ap, subst, arith}
use Rattle.std.proofs.lemmas.Bool.Decides.{nat_tests}
use Rattle.place_values.specs.declared.query.Expr.{Expr}
use Rattle.place_values.specs.declared.query.Expr.TheVariants.{Has, Not', And', Or'}
use Rattle.place_values.specs.Limits.{Form, Whole, Term, Factor, words_in, levels_as, around_and, around_or, IsExpression, IsFilter}
use Rattle.term_impacts.specs.Text.{words_of, only}
use Rattle.line_tokens.specs.Token.{Token, token_of}
use Rattle.query_replies.specs.declared.fault.LineFault.{LineFault}
use Rattle.query_replies.specs.declared.fault.LineFault.TheVariants.{Extra}
use Rattle.query_lang.specs.declared.clause.Clause.{Clause}
use Rattle.query_lang.specs.Reader.{Reader, Answers, ◌>>=◌, and_then, followed, at_end, ended, is_word, part}
use Rattle.query_lang.specs.Plain.{plain, plain_filter}
use Rattle.query_lang.specs.Expression.{Kind, Named, NotSign, OpenSign, CloseSign, Other, kind_of, has_word, named, negated, both, either, behind_word, if_behind, more_joined, joined, conjunction, expression, closing, denied, closed, enclosed, behind_kind, by_kind, factor, condition, where_or_end, filter_of}

-- the limits don't depend on where boxes stand
words_in-plain : (expr : Expr) → words_in (plain expr) ≡ words_in expr
words_in-plain (Has word) = refl
words_in-plain (Not' _ one) = words_in-plain one
words_in-plain (And' _ one _ other) = λ i. words_in-plain one i + words_in-plain other i
words_in-plain (Or' _ one _ other) = λ i. words_in-plain one i + words_in-plain other i

levels_as-plain : (form : Form) (expr : Expr) → levels_as form (plain expr) ≡ levels_as form expr
levels_as-plain form (Has word) = refl
levels_as-plain form (Not' _ one) = ap (λ n. 1 + n) (levels_as-plain Factor one)
levels_as-plain form (And' _ one _ other) = λ i. around_and form + max (levels_as-plain Term one i) (levels_as-plain Factor other i)
levels_as-plain form (Or' _ one _ other) = λ i. around_or form + max (levels_as-plain Whole one i) (levels_as-plain Term other i)

limits-plain : (filter : Option Expr) → IsFilter (plain_filter filter) → IsFilter filter
limits-plain None limits = tt
limits-plain (Some expr) limits = record {
  words = subst (λ n. n ≤ 64) (words_in-plain expr) limits.words;
  levels = subst (λ n. n ≤ 32) (levels_as-plain Whole expr) limits.levels;
}

-- the tighter an expression has to be joined, the more levels it takes, and at most one more
whole_first : (expr : Expr) → levels_as Whole expr ≤ levels_as Term expr
whole_first (Has word) = omega arith
whole_first (Not' _ one) = omega arith
whole_first (And' _ one _ other) = omega arith
whole_first (Or' _ one _ other) = omega arith

term_first : (expr : Expr) → levels_as Term expr ≤ levels_as Factor expr
term_first (Has word) = omega arith
term_first (Not' _ one) = omega arith
term_first (And' _ one _ other) = omega arith
term_first (Or' _ one _ other) = omega arith

one_more : (expr : Expr) → levels_as Factor expr ≤ 1 + levels_as Whole expr
one_more (Has word) = omega arith
one_more (Not' _ one) = omega arith
one_more (And' _ one _ other) = omega arith
one_more (Or' _ one _ other) = omega arith

-- a clause that was read behind so many words, on so many levels
record IsRead (form : Form) (levels words : ℕ) (clause : Clause) : Type 0 where
  counted : clause.words ≡ words + words_in clause.expr
  few : clause.words ≤ 64
  shallow : levels_as form clause.expr ≤ levels

-- a reader of such clauses
abbrev Reads : Form → ℕ → (ℕ → Reader Clause) → Type 0
Reads form levels item = (words : ℕ) (text : List ℕ) (clause : Clause) (rest : List ℕ) → item words text ≡ Ok (clause, rest) → IsRead form levels words clause

-- what was read before another part
first_read : {A B : Type 0} (read : Result (A × List ℕ) LineFault) (go : A → List ℕ → Result B LineFault) (last : B) → and_then go read ≡ Ok last
    → (got : A × List ℕ) × (read ≡ Ok got) × (go got.0 got.1 ≡ Ok last)
first_read (Ok got) go last e = (got, refl, e)
first_read (Err fault) go last e = absurd (cc e)

same_clause : (one clause : Clause) (text rest : List ℕ) → ◌≡◌ {A = Result (Clause × List ℕ) LineFault} (Ok (one, text)) (Ok (clause, rest)) → one ≡ clause
same_clause one clause text rest e = let same : ◌≡◌ {A = Clause × List ℕ} (one, text) (clause, rest) = cc e in ap (λ (got : Clause × List ℕ). got.0) same

-- items that are joined
module _ (sign : List ℕ) (item : ℕ → Reader Clause) (join : Clause → Clause → Clause) (before after : Form) (levels : ℕ)
    (reads : Reads after levels item) (lone : (words : ℕ) (one : Clause) → IsRead after levels words one → IsRead before levels words one)
    (joins : (words : ℕ) (one other : Clause) → IsRead before levels words one → IsRead after levels one.words other → IsRead before levels words (join one other)) where
  -- what is joined next, if what is read behind it is joined rightly
  next_read : (left words : ℕ) (one : Clause) (clause : Clause) (rest : List ℕ) → ((other : Clause) (text : List ℕ) → IsRead before levels words (join one other) → more_joined left sign item join (join one other) text ≡ Ok (clause, rest) → IsRead before levels words clause)
      → IsRead before levels words one → (text : List ℕ) (behind : Option (List ℕ)) → if_behind (item one.words >>= (λ other. more_joined left sign item join (join one other))) (Ok (one, text)) behind ≡ Ok (clause, rest) → IsRead before levels words clause
  next_read left words one clause rest later is text None e = subst (IsRead before levels words) (same_clause one clause text rest e) is
  next_read left words one clause rest later is text (Some next) e =
      let got = first_read (item one.words next) (λ other. more_joined left sign item join (join one other)) (clause, rest) e in
      later got.0.0 got.0.1 (joins words one got.0.0 is (reads one.words next got.0.0 got.0.1 got.1)) got.2

  more_read : (left words : ℕ) (one : Clause) (text : List ℕ) (clause : Clause) (rest : List ℕ) → IsRead before levels words one → more_joined left sign item join one text ≡ Ok (clause, rest) → IsRead before levels words clause
  unfolding more_joined
  more_read zero words one text clause rest is e = subst (IsRead before levels words) (same_clause one clause text rest e) is
  more_read (suc left) words one text clause rest is e =
      next_read left words one clause rest (λ other text is e. more_read left words (join one other) text clause rest is e) is text (behind_word sign (token_of text)) e

  joined_read : Reads before levels (joined sign item join)
  joined_read words text clause rest e =
      let got = first_read (item words text) (more_joined 64 sign item join) (clause, rest) e in
      more_read 64 words got.0.0 got.0.1 clause rest (lone words got.0.0 (reads words text got.0.0 got.0.1 got.1)) got.2

module _ (item : ℕ → Reader Clause) (levels : ℕ) (reads : Reads Factor levels item) where
  lone_factor : (words : ℕ) (one : Clause) → IsRead Factor levels words one → IsRead Term levels words one
  lone_factor words one is = record { counted = is.counted; few = is.few; shallow = omega (arith, is.shallow, term_first one.expr) }

  both_read : (words : ℕ) (one other : Clause) → IsRead Term levels words one → IsRead Factor levels one.words other → IsRead Term levels words (both one other)
  both_read words one other is then = record { counted = omega (arith, is.counted, then.counted); few = then.few; shallow = omega (arith, is.shallow, then.shallow) }

  conjunction_read : Reads Term levels (conjunction item)
  unfolding conjunction
  conjunction_read = joined_read (codes "and") item both Term Factor levels reads lone_factor both_read

  lone_term : (words : ℕ) (one : Clause) → IsRead Term levels words one → IsRead Whole levels words one
  lone_term words one is = record { counted = is.counted; few = is.few; shallow = omega (arith, is.shallow, whole_first one.expr) }

  either_read : (words : ℕ) (one other : Clause) → IsRead Whole levels words one → IsRead Term levels one.words other → IsRead Whole levels words (either one other)
  either_read words one other is then = record { counted = omega (arith, is.counted, then.counted); few = then.few; shallow = omega (arith, is.shallow, then.shallow) }

  expression_read : Reads Whole levels (expression item)
  unfolding expression
  expression_read = joined_read (codes "or") (conjunction item) either Whole Term levels conjunction_read lone_term either_read

  denied_read : Reads Factor (suc levels) (denied item)
  unfolding denied
  denied_read words text clause rest e =
      let got = first_read (item words text) (λ one rest. Ok (negated one, rest)) (clause, rest) e in
      let is = reads words text got.0.0 got.0.1 got.1 in
      subst (IsRead Factor (suc levels) words) (same_clause (negated got.0.0) clause got.0.1 rest got.2) (record { counted = is.counted; few = is.few; shallow = omega (arith, is.shallow) })

  enclosed_read : Reads Factor (suc levels) (enclosed item)
  unfolding enclosed
  enclosed_read words text clause rest e =
      let got = first_read (expression item words text) closed (clause, rest) e in
      let is = expression_read words text got.0.0 got.0.1 got.1 in
      let end = first_read (part (λ token. closing (kind_of token)) got.0.1) (λ _ rest. Ok (got.0.0, rest)) (clause, rest) got.2 in
      subst (IsRead Factor (suc levels) words) (same_clause got.0.0 clause end.0.1 rest end.2) (record { counted = is.counted; few = is.few; shallow = omega (arith, is.shallow, one_more got.0.0.expr) })

-- a word
named_read : (levels words : ℕ) (bytes text : List ℕ) (clause : Clause) (rest : List ℕ) → followed text (named words bytes) ≡ Ok (clause, rest) → IsRead Factor levels words clause
named_read levels words bytes text clause rest e = by_room (nat_le 64 words) refl e
  where
    by_word : (word : Option (List ℕ)) → words < 64 → followed text (has_word words word) ≡ Ok (clause, rest) → IsRead Factor levels words clause
    by_word None few e = absurd (cc e)
    by_word (Some word) few e = subst (IsRead Factor levels words) (same_clause _ clause text rest e) (record { counted = refl; few = omega (arith, few); shallow = omega arith })

    by_room : (full : Bool) → nat_le 64 words ≡ full → followed text (named words bytes) ≡ Ok (clause, rest) → IsRead Factor levels words clause
    by_room true is e = absurd (let f = rw is at e in cc f)
    by_room false is e = by_word (only (words_of bytes)) (grind (arith, nat_tests)) (rw is at e)

-- what stands behind a token, where no level is left and where one is
kind_read : (words : ℕ) (kind : Kind) (text : List ℕ) (clause : Clause) (rest : List ℕ) → behind_kind None words kind text ≡ Ok (clause, rest) → IsRead Factor 0 words clause
kind_read words (Named bytes) text clause rest e = named_read 0 words bytes text clause rest e
kind_read words NotSign text clause rest e = absurd (cc e)
kind_read words OpenSign text clause rest e = absurd (cc e)
kind_read words CloseSign text clause rest e = absurd (cc e)
kind_read words Other text clause rest e = absurd (cc e)

deeper_read : (item : ℕ → Reader Clause) (levels : ℕ) → Reads Factor levels item → (words : ℕ) (kind : Kind) (text : List ℕ) (clause : Clause) (rest : List ℕ) → behind_kind (Some item) words kind text ≡ Ok (clause, rest) → IsRead Factor (suc levels) words clause
deeper_read item levels reads words (Named bytes) text clause rest e = named_read (suc levels) words bytes text clause rest e
deeper_read item levels reads words NotSign text clause rest e = denied_read item levels reads words text clause rest e
deeper_read item levels reads words OpenSign text clause rest e = enclosed_read item levels reads words text clause rest e
deeper_read item levels reads words CloseSign text clause rest e = absurd (cc e)
deeper_read item levels reads words Other text clause rest e = absurd (cc e)

token_read : {A : Type 0} (go : Kind → List ℕ → Result A LineFault) (found : Option (Token × List ℕ)) (last : A) → by_kind go found ≡ Ok last
    → (kind : Kind) × (text : List ℕ) × (go kind text ≡ Ok last)
token_read go None last e = absurd (cc e)
token_read go (Some found) last e = (kind_of found.0, found.1, e)

factor_read : (levels : ℕ) → Reads Factor levels (factor levels)
unfolding factor
factor_read zero words text clause rest e =
    let got = token_read (behind_kind None words) (token_of text) (clause, rest) e in
    kind_read words got.0 got.1 clause rest got.2
factor_read (suc levels) words text clause rest e =
    let got = token_read (behind_kind (Some (factor levels)) words) (token_of text) (clause, rest) e in
    deeper_read (factor levels) levels (factor_read levels) words got.0 got.1 clause rest got.2

-- a filter
same_filter : (one filter : Option Expr) → ◌≡◌ {A = Result (Option Expr) LineFault} (Ok one) (Ok filter) → one ≡ filter
same_filter one filter e = cc e

condition_read : (text : List ℕ) (filter : Option Expr) → condition text ≡ Ok filter → IsFilter filter
condition_read text filter e =
    let got = first_read (expression (factor 32) 0 text) (λ clause. at_end (Some clause.expr)) filter e in
    let is = expression_read (factor 32) 32 (factor_read 32) 0 text got.0.0 got.0.1 got.1 in
    by_end got.0.0.expr (record { words = omega (arith, is.counted, is.few); levels = is.shallow }) (token_of got.0.1) got.2
  where
    by_end : (expr : Expr) → IsExpression expr → (found : Option (Token × List ℕ)) → ended (Some expr) found ≡ Ok filter → IsFilter filter
    by_end expr is None e = subst IsFilter (same_filter (Some expr) filter e) is
    by_end expr is (Some found) e = absurd (cc e)

filter_read : (text : List ℕ) (filter : Option Expr) → filter_of text ≡ Ok filter → IsFilter filter
unfolding filter_of
filter_read text filter e = by_token (token_of text) e
  where
    by_where : (test : Bool) (rest : List ℕ) → cond test (condition rest) (Err Extra) ≡ Ok filter → IsFilter filter
    by_where true rest e = condition_read rest filter e
    by_where false rest e = absurd (cc e)

    by_token : (found : Option (Token × List ℕ)) → where_or_end found ≡ Ok filter → IsFilter filter
    by_token None e = subst IsFilter (same_filter None filter e) tt
    by_token (Some found) e = by_where (is_word (codes "where") found.0) found.1 e

-- so a filter keeps the limits that is answered as it is read
pub filter_limits : (text : List ℕ) (result : Result (Option Expr) LineFault) → Answers plain_filter result (filter_of text) → IfOk result IsFilter
filter_limits text (Ok filter) says = limits-plain filter (filter_read text (plain_filter filter) says)
filter_limits text (Err fault) says = tt
