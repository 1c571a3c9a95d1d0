use Rattle.std.proofs.Common.{◌≡◌, length, rules}
use Rattle.std.proofs.lemmas.Result.{on_ok_weaker}
use Rattle.page_store.proofs.Bytes.{page_bytes-read}
use Rattle.page_store.proofs.page.read_page.Goals as goal

pub returns-clause-gives : goal.returns-clause-gives
returns-clause-gives g c = λ t.
    let whole : length c.read.new.buf ≡ 4096 = search rules in
    on_ok_weaker c.read.result (λ reads. page_bytes-read _ _ _ whole reads) (c.read.ensures.told t).gives
