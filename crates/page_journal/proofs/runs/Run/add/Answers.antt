use Rattle.std.proofs.Common.{◌≡◌, ◌⊎◌, ◌<◌, ◌≤◌, ◌+◌, ◌*◌, ◌++◌, ℕ, List, length, length-append, is_ok, arith, refl, sym, ◌∙◌, ap, subst}
use Rattle.std.proofs.lemmas.Bool.{cond-true}
use Rattle.page_journal.specs.Runs.{LeadsTo, IsWithin}
use Rattle.page_journal.proofs.Steps.{spares_at_start, spares_at_write}
use Rattle.page_journal.proofs.Neighbours.{leads_by_itself, leads_first, leads_more, within_more}
use Rattle.page_journal.proofs.runs.Run.add.Goals as goal

pub returns-then-takes-clause-within : goal.returns-then-takes-clause-within
returns-then-takes-clause-within g c = λ batch first second.
    let grown : c.extend_from_slice-appended.new.self.items ≡ c.args.self.now.bytes.items ++ c.args.page.now =
    c.extend_from_slice-appended.ensures.items ∙ cond-true (is_ok c.extend_from_slice-appended.result) _ _ (c.extend_from_slice-appended.ensures.succeeds (omega (arith, (c.if-takes.ensures refl).1, c.requires.size))) in
    let long : length c.extend_from_slice-appended.new.self.items ≡ length c.args.self.now.bytes.items + 4096 =
    ap (λ (l : List ℕ). length l) grown ∙ length-append c.args.self.now.bytes.items c.args.page.now ∙ ap (λ (n : ℕ). length c.args.self.now.bytes.items + n) c.requires.size in
    subst (λ (n : ℕ). IsWithin batch c.args.self.now.at n) (sym long) (within_more batch c.args.self.now.at (4096 * c.args.number) (length c.args.self.now.bytes.items) 4096 (c.if-takes.ensures refl).0 first second)

pub returns-then-takes-clause-leads : goal.returns-then-takes-clause-leads
returns-then-takes-clause-leads g c = λ t rest target leads.
    let grown : c.extend_from_slice-appended.new.self.items ≡ c.args.self.now.bytes.items ++ c.args.page.now =
    c.extend_from_slice-appended.ensures.items ∙ cond-true (is_ok c.extend_from_slice-appended.result) _ _ (c.extend_from_slice-appended.ensures.succeeds (omega (arith, (c.if-takes.ensures refl).1, c.requires.size))) in
    leads_more c.args.self.now.at c.args.number c.args.self.now.bytes.items c.extend_from_slice-appended.new.self.items c.args.page.now rest _ target grown (c.if-takes.ensures refl).0 c.requires.size leads

pub returns-in_err-write-clause-spares : goal.returns-in_err-write-clause-spares
returns-in_err-write-clause-spares g c = λ t batch first second. spares_at_write (spares_at_start _) (c.write.ensures.written t) first

pub returns-in-Ok-clause-spares : goal.returns-in-Ok-clause-spares
returns-in-Ok-clause-spares g c = λ t batch first second. spares_at_write (spares_at_start _) (c.write.ensures.written t) first

pub returns-in-Ok-clause-within : goal.returns-in-Ok-clause-within
returns-in-Ok-clause-within g c = λ batch first second.
    let grown : c.extend_from_slice.new.self.items ≡ c.args.page.now = c.in-Ok.ensures.items ∙ ap (λ (l : List ℕ). l ++ c.args.page.now) c.in_ok-write.ensures.empty in
    subst (λ (n : ℕ). IsWithin batch (4096 * c.args.number) n) (sym (ap (λ (l : List ℕ). length l) grown ∙ c.requires.size)) second

pub returns-in-Ok-clause-leads : goal.returns-in-Ok-clause-leads
returns-in-Ok-clause-leads g c = λ t rest target leads.
    let grown : c.extend_from_slice.new.self.items ≡ c.args.page.now = c.in-Ok.ensures.items ∙ ap (λ (l : List ℕ). l ++ c.args.page.now) c.in_ok-write.ensures.empty in
    subst (λ (l : List ℕ). LeadsTo (4096 * c.args.number) l rest (g.D.Disk.world c.write.new.disk).seen target) (sym grown)
    (leads_first c.args.number c.args.page.now rest _ target c.requires.size (leads _ (c.in_ok-write.ensures.written t).written))

pub returns-in-Err-clause-spares : goal.returns-in-Err-clause-spares
returns-in-Err-clause-spares g c = λ t batch first second.
    spares_at_write (spares_at_write (spares_at_start _) (c.write.ensures.written t) first) (c.write-in-Err.ensures.told t)
    (λ i apart. subst (λ (n : ℕ). (i < 4096 * c.args.number) ⊎ (4096 * c.args.number + n ≤ i)) (sym c.requires.size) (second i apart))

pub returns-in-Err-clause-leads : goal.returns-in-Err-clause-leads
returns-in-Err-clause-leads g c = λ t.
    leads_by_itself c.write-in-Err.result c.args.self.now.at c.args.number c.args.self.now.bytes.items c.extend_from_slice.new.self.items c.args.page.now _ _ _ (c.in-Err.ensures.items ∙ c.in_ok-write.ensures.empty) c.requires.size
    (c.in_ok-write.ensures.written t).written (c.write-in-Err.ensures.told t).written
