use Rattle.std.proofs.Common.{◌≡◌, ℕ, List, sym, subst}
use Rattle.std.proofs.lemmas.Cmp.{nat_list_cmp_total}
use Rattle.std.proofs.lemmas.List.Filters.{dedup_is}
use Rattle.std.proofs.lemmas.List.Kept.{Contains-dedup, IsStrictlySortedBy-dedup}
use Rattle.std.proofs.lemmas.List.Sorted.{Contains-permutation}
use Rattle.std.proofs.lemmas.Map.Text.{is_eq-slice_cmp}
use Rattle.std.proofs.lemmas.Slice.Eq.{bytes_eq-Decides}
use Rattle.std.specs.Cmp.Lexicographic.{nat_list_eq_equiv}
use Rattle.std.specs.List.{Contains, dedup}
use Rattle.std.specs.List.Sorted.{IsStrictlySortedBy}
use Rattle.std.specs.Str.{bytes_eq}
use Rattle.store_tables.specs.Entries.{word_cmp}
use Rattle.query_execution.proofs.asked.in_order.Goals as goal

pub returns-clause-ascending : goal.returns-clause-ascending
returns-clause-ascending c =
    let sorted = c.sort_unstable.new.self.items in
    let left : c.dedup.new.self.items ≡ dedup bytes_eq sorted = dedup_is bytes_eq sorted c.dedup.new.self.items c.dedup.ensures.filtered in
    subst (IsStrictlySortedBy word_cmp) (sym left) (IsStrictlySortedBy-dedup nat_list_cmp_total (λ x y. sym (is_eq-slice_cmp x y)) sorted c.sort_unstable.ensures.sorted)

pub returns-clause-every : goal.returns-clause-every
returns-clause-every c = λ word among.
    let sorted = c.sort_unstable.new.self.items in
    let left : c.dedup.new.self.items ≡ dedup bytes_eq sorted = dedup_is bytes_eq sorted c.dedup.new.self.items c.dedup.ensures.filtered in
    let there : Contains sorted word = Contains-permutation c.args.words.items sorted word c.sort_unstable.ensures.permutation among in
    subst (λ (ws : List (List ℕ)). Contains ws word) (sym left) (Contains-dedup nat_list_eq_equiv (λ x y. (bytes_eq-Decides x y).0) sorted word there)
