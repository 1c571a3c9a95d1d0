use Rattle.std.proofs.Common.{◌≡◌, ◌+◌, ◌∙◌, ap, length, sym, rules}
use Rattle.store_tables.proofs.KeyLemmas.{number-behind}
use Rattle.store_tables.proofs.LookupLemmas.{number-key}
use Rattle.store_tables.proofs.entry.behind.Goals as goal

pub returns-clause-number : goal.returns-clause-number
returns-clause-number c =
    let size : length c.bytes-bytes.result ≡ 66 = search rules in
    number-behind c.bytes-bytes.result 65 (sym size) ∙ ap (λ n. n + 1) (number-key c.bytes-bytes.result c.args.key.now c.bytes-bytes.ensures.form)
