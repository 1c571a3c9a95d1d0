-- The numbers among the values of a line: each passed the range of its option, and is read as the number that it spells.
use Rattle.std.proofs.Common.{◌≡◌, ◌≢◌, ◌⊎◌, ◌∙◌, ◌<◌, ◌≤◌, ◌&&◌, ap, sym, subst, refl, inl, inr, arith, ℕ, zero, suc, Bool, true, not, List, [], ◌∷◌, length, map, Option, Some, None, codes, true≢false}
use Rattle.std.specs.Prelude.{IfSome, Ok, Err, Result, option_and_then, option_map, slice_get, unwrap_or}
use Rattle.std.specs.Borrow.{Bor}
use Rattle.std.specs.List.{All, list_all, list_any, slice_index_or}
use Rattle.std.specs.Str.{bytes_eq}
use Rattle.std.specs.Str.Parse.{ParsesUnsigned}
use Rattle.std.proofs.lemmas.List.{get_or_default, length-map}
use Rattle.std.proofs.lemmas.List.Elements.{All-get_or}
use Rattle.std.proofs.lemmas.Slice.Eq.{bytes_eq-Decides}
use Rattle.std.proofs.Math.ListN.{get_or-map}
use Rattle.clap.specs.Facts.{Entry, EntryPasses, HasReading, PassesArg, ValuesPass, parser_of, parser_of_value}
use Rattle.clap.specs.Built.{IsParsedFrom}
use Rattle.clap.specs.Matches.{ReadsOne, matched_of, one_text}
use Rattle.clap.specs.Values.{Accepts, read_as, reading_of}
use Rattle.clap.specs.Words.{IsUnsignedIn, Rule, Text, app_of, args_of, found_of, groups_of, rows_of, rule_of}
use Rattle.clap.specs.declared.builder.arg.Arg.{Arg}
use Rattle.clap.specs.declared.builder.command.Command.{Command}
use Rattle.clap.specs.declared.builder.value_parser.Reading.{Reading}
use Rattle.clap.specs.declared.builder.value_parser.Reading.TheVariants.{AsWritten}
use Rattle.clap.specs.declared.builder.value_parser.ValueParser.{ValueParser}
use Rattle.clap.specs.declared.builder.value_parser.ValueParser.TheVariants.{Unsigned}
use Rattle.clap.specs.declared.parser.matches.ArgMatches.{ArgMatches}
use Rattle.clap.specs.declared.parser.matches.MatchedArg.{MatchedArg}
use Rattle.clap.proofs.CallerLemmas.{entry_by_id, same_rules_by_id}
use Rattle.clap.proofs.FactLemmas.{any_true}
use Rattle.clap.proofs.SimpleLemmas.{is_false, plain_fields, simple_groups}
use Rattle.clap.proofs.WalkLemmas.{both, one_text-rows}
use Rattle.command_words.specs.Command.{HasNumbers, batch_rule, cache_rule, count_rule, from_rule, program, rules}
use Rattle.command_words.specs.Job.{number_or}

-- ---- a number that is read

-- the number that a parse of an option's text gives, or the one for an absent option, is what the text spells
pub number_read : (E : Type 0) (G : List ℕ → Result ℕ E → Type 0) (absent : ℕ) (o p : Option Text) (r : Option ℕ) → o ≡ p
    → (o ≡ None → r ≡ None) → ((t : Text) → o ≡ Some t → ReadsOne G t r) → ((u : List ℕ) (x : Result ℕ E) → G u x → ParsesUnsigned 64 10 u x)
    → IfSome p (IsUnsignedIn 0 18446744073709551615) → unwrap_or r absent ≡ number_or absent p
number_read E G absent None p r same none value only fits = rw (← same, none refl) refl
number_read E G absent (Some t) p (Some n) same none value only fits = rw (← same) (only t (Ok n) (value t refl)).1
number_read E G absent (Some t) p None same none value only fits =
    let read = value t refl in
    let spelled : IsUnsignedIn 0 18446744073709551615 t = rw (← same) at fits in
    absurd (only t (Err read.0) read.1 (spelled.0, omega arith))

pub from_in : (o : Option Text) → IfSome o (IsUnsignedIn 0 18446744073709551615) → number_or 0 o ≤ 18446744073709551615
from_in None h = omega arith
from_in (Some t) h = h.3

pub count_in : (o : Option Text) → IfSome o (IsUnsignedIn 1 100000) → (1 ≤ number_or 1000 o) × (number_or 1000 o ≤ 100000)
count_in None h = (omega arith, omega arith)
count_in (Some t) h = (h.2, h.3)

-- ---- the arguments of the command

-- no id stands twice
abbrev all_differ : List Rule → Bool
all_differ [] = true
all_differ (r ∷ rs) = not (list_any (λ s. bytes_eq s.id r.id) rs) && all_differ rs

-- two names are the same, the other way round
same_back : (a b : Text) → bytes_eq a b ≡ true → bytes_eq b a ≡ true
same_back a b same = (bytes_eq-Decides b a).1 (sym ((bytes_eq-Decides a b).0 same))

-- the first id stands at no later place
first_only : (r : Rule) (rs : List Rule) (k : ℕ) (e : Rule) → all_differ (r ∷ rs) ≡ true → k < length rs → bytes_eq (slice_index_or rs k e).id r.id ≡ true → ⊥
first_only r rs k e differ lt same =
    let x = slice_index_or rs k e in
    let stands = any_true (λ (s : Rule). bytes_eq s.id r.id) rs k x lt (get_or_default rs k e x lt) same in
    let none = is_false _ (both _ _ differ).0 in
    true≢false (stands ∙ none)

-- where no id stands twice, an id has one place
one_place : (rs : List Rule) (j k : ℕ) (d e : Rule) → all_differ rs ≡ true → j < length rs → k < length rs
    → bytes_eq (slice_index_or rs j d).id (slice_index_or rs k e).id ≡ true → j ≡ k
one_place [] j k d e differ lj lk same = absurd (omega arith)
one_place (r ∷ rs) zero zero d e differ lj lk same = refl
one_place (r ∷ rs) zero (suc k) d e differ lj lk same = absurd (first_only r rs k e differ (omega arith) (same_back r.id (slice_index_or rs k e).id same))
one_place (r ∷ rs) (suc j) zero d e differ lj lk same = absurd (first_only r rs j d differ (omega arith) same)
one_place (r ∷ rs) (suc j) (suc k) d e differ lj lk same = ap suc (one_place rs j k d e (both _ _ differ).1 (omega arith) (omega arith) same)

module _ (c : Command) (m : ArgMatches) (p : IsParsedFrom c m) (is : app_of c ≡ program) where
  rules_are : map rule_of (args_of c) ≡ rules
  rules_are = ap (λ a. a.top.rules) is

  rule_at : (k : ℕ) (d : Arg) → rule_of (slice_index_or (args_of c) k d) ≡ slice_index_or rules k (rule_of d)
  rule_at k d = sym (get_or-map rule_of (args_of c) k d) ∙ ap (λ l. slice_index_or l k (rule_of d)) rules_are

  id_at : (k : ℕ) (d : Arg) → (slice_index_or (args_of c) k d).id.now ≡ (slice_index_or rules k (rule_of d)).id
  id_at k d = ap (λ (r : Rule). r.id) (rule_at k d)

  eight : length (args_of c) ≡ 8
  eight = sym (length-map (args_of c) rule_of) ∙ ap length rules_are

  unique : (k : ℕ) (d : Arg) → k < 8 → (j : ℕ) (e : Arg) → j < length (args_of c)
      → bytes_eq (slice_index_or (args_of c) j e).id.now (slice_index_or (args_of c) k d).id.now ≡ true → j ≡ k
  unique k d lk j e lj same = one_place rules j k (rule_of e) (rule_of d) refl (omega (arith, eight)) lk (rw (← id_at j e, ← id_at k d) same)

  no_groups : groups_of p.built ≡ []
  no_groups = (p.from.same_groups (simple_groups c (ap (λ a. list_all (λ (r : Rule). r.is_simple) a.top.rules) is))).1
      ∙ (plain_fields c (ap (λ a. a.top.is_plain) is)).groups

  values_pass : ValuesPass p.built (found_of m)
  values_pass = (p.parsed (p.from.globals ∙ (plain_fields c (ap (λ a. a.top.is_plain) is)).globals)).values

  -- an argument of the built command with the name of one of ours has its parser
  same_parser : (k : ℕ) (r : Rule) (q : ValueParser) → k < 8 → ((d : Arg) → slice_index_or rules k (rule_of d) ≡ r) → r.parser ≡ Some q
      → ((r.id ≡ codes "help") ⊎ (r.id ≡ codes "version") → ⊥)
      → (j : ℕ) (x : Arg) → j < length (args_of p.built) → slice_index_or (args_of p.built) j x ≡ x → bytes_eq x.id.now r.id ≡ true
      → parser_of x ≡ q
  same_parser k r q lk at parser own j x lj here same =
      let mine = rule_at k x ∙ at x in
      let id : (slice_index_or (args_of c) k x).id.now ≡ r.id = ap (λ (s : Rule). s.id) mine in
      let found : bytes_eq x.id.now (slice_index_or (args_of c) k x).id.now ≡ true = subst (λ (t : Text). bytes_eq x.id.now t ≡ true) (sym id) same in
      let stays = same_rules_by_id c m p k x (omega (arith, eight)) (unique k x lk)
      (λ auto. own (elim auto [ inl h ↦ inl (sym id ∙ h) | inr h ↦ inr (sym id ∙ h) ])) j x lj here found in
      ap parser_of_value (stays.parser q (ap (λ (s : Rule). s.parser) mine ∙ parser))

  -- the text of an option with a range lies in that range, where it stands
  passes : (k low high : ℕ) (r : Rule) → k < 8 → ((d : Arg) → slice_index_or rules k (rule_of d) ≡ r) → r.parser ≡ Some (Unsigned low high)
      → (r.id ≡ [] → ⊥) → ((r.id ≡ codes "help") ⊎ (r.id ≡ codes "version") → ⊥)
      → IfSome (one_text (found_of m) r.id) (IsUnsignedIn low high)
  passes k low high r lk at parser named own = go (matched_of (found_of m) r.id) refl
    where
      first : (vs : List (Bor Text)) (how : Reading) → how ≡ AsWritten → All (λ v. PassesArg p.built r.id v.now) vs
          → IfSome (option_map (λ s. read_as how s.now) (slice_get vs 0)) (IsUnsignedIn low high)
      first [] how is_plain all = tt
      first (v ∷ vs) how is_plain all =
          let any = All-get_or (λ (w : Bor Text). PassesArg p.built r.id w.now) (v ∷ vs) 0 v (omega arith) all in
          let is_range = same_parser k r (Unsigned low high) lk at parser own any.0 any.1 any.2 any.3 any.4.0 in
          let inside : IsUnsignedIn low high v.now = subst (λ (q : ValueParser). Accepts any.1.ignore_case q v.now) is_range any.4.1 in
          subst (λ (h : Reading). IsUnsignedIn low high (read_as h v.now)) (sym is_plain) inside

      entry : (x : MatchedArg) → ((e : Entry) × (e.1 ≡ x) × (bytes_eq e.0.now r.id ≡ true) × EntryPasses p.built e)
          → IfSome (option_map (λ s. read_as x.reading s.now) (slice_get x.vals.items 0)) (IsUnsignedIn low high)
      entry x got =
          let key : got.0.0.now ≡ r.id = (bytes_eq-Decides got.0.0.now r.id).0 got.2 in
          let no_group : got.0.1.is_group ≡ true → ⊥ = λ g. elim (got.3.3 g) [
            | inl empty ↦ named (sym key ∙ empty)
            | inr lots ↦
                let bad : 0 < 0 = subst (λ l. 0 < length l) no_groups lots in
                absurd (omega arith)
          ] in
          let all : All (λ v. PassesArg p.built r.id v.now) got.0.1.vals.items = elim got.3.0 [
            | inl g ↦ absurd (no_group g)
            | inr vals ↦ subst (λ (w : Text). All (λ v. PassesArg p.built w v.now) got.0.1.vals.items) key vals
          ] in
          let how : got.0.1.reading ≡ AsWritten = elim got.3.4 [
            | inl g ↦ absurd (no_group g)
            | inr h ↦
                let any = subst (λ (w : Text). HasReading p.built w got.0.1.reading) key h in
                sym any.4.1 ∙ ap reading_of (same_parser k r (Unsigned low high) lk at parser own any.0 any.1 any.2 any.3 any.4.0)
          ] in
          subst (λ (y : MatchedArg). IfSome (option_map (λ s. read_as y.reading s.now) (slice_get y.vals.items 0)) (IsUnsignedIn low high)) got.1
          (first got.0.1.vals.items got.0.1.reading how all)

      go : (o : Option MatchedArg) → matched_of (found_of m) r.id ≡ o
          → IfSome (option_and_then (λ a. option_map (λ s. read_as a.reading s.now) (slice_get a.vals.items 0)) o) (IsUnsignedIn low high)
      go None e = tt
      go (Some x) e = entry x (entry_by_id (EntryPasses p.built) (found_of m).entries.items r.id x values_pass e)

-- two names whose first bytes differ are two
other_first : (a b : Text) → slice_index_or a 0 0 ≢ slice_index_or b 0 0 → a ≡ b → ⊥
other_first a b differ same = differ (ap (λ (l : Text). slice_index_or l 0 0) same)

pub numbers_pass : (c : Command) (m : ArgMatches) → IsParsedFrom c m → app_of c ≡ program → HasNumbers (rows_of (found_of m))
numbers_pass c m p is =
    let batch = passes c m p is 2 1 10000 batch_rule (omega arith) (λ d. refl) refl
    (other_first (codes "batch") [] (omega arith))
    (λ auto. elim auto [ inl h ↦ other_first (codes "batch") (codes "help") (omega arith) h | inr h ↦ other_first (codes "batch") (codes "version") (omega arith) h ]) in
    let cache = passes c m p is 3 0 65536 cache_rule (omega arith) (λ d. refl) refl
    (other_first (codes "cache") [] (omega arith))
    (λ auto. elim auto [ inl h ↦ other_first (codes "cache") (codes "help") (omega arith) h | inr h ↦ other_first (codes "cache") (codes "version") (omega arith) h ]) in
    let from = passes c m p is 6 0 18446744073709551615 from_rule (omega arith) (λ d. refl) refl
    (other_first (codes "from") [] (omega arith))
    (λ auto. elim auto [ inl h ↦ other_first (codes "from") (codes "help") (omega arith) h | inr h ↦ other_first (codes "from") (codes "version") (omega arith) h ]) in
    let count = passes c m p is 7 1 100000 count_rule (omega arith) (λ d. refl) refl
    (other_first (codes "count") [] (omega arith))
    (λ auto. elim auto [ inl h ↦ other_first (codes "count") (codes "help") (omega arith) h | inr h ↦ other_first (codes "count") (codes "version") (omega arith) h ]) in
    record {
      batch = subst (λ (o : Option Text). IfSome o (IsUnsignedIn 1 10000)) (one_text-rows (found_of m) (codes "batch")) batch;
      cache = subst (λ (o : Option Text). IfSome o (IsUnsignedIn 0 65536)) (one_text-rows (found_of m) (codes "cache")) cache;
      from = subst (λ (o : Option Text). IfSome o (IsUnsignedIn 0 18446744073709551615)) (one_text-rows (found_of m) (codes "from")) from;
      count = subst (λ (o : Option Text). IfSome o (IsUnsignedIn 1 100000)) (one_text-rows (found_of m) (codes "count")) count;
    }
