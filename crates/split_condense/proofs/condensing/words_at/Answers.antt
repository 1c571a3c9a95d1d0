use Rattle.std.proofs.Common.{◌≡◌, ◌<◌, ◌∙◌, ℕ, List, [], arith, ap, sym, max, take, length, get_or}
use Rattle.std.proofs.lemmas.List.{take_more}
use Rattle.node_rows.specs.Impacts.{impact_in}
use Rattle.node_inverted.specs.Lifts.{lifted_at, lifted_by}
use Rattle.node_inverted.specs.declared.taking.NodeRow.{NodeRow}
use Rattle.node_inverted.proofs.Lifts.{lifted-push}
use Rattle.split_condense.proofs.condensing.words_at.Goals as goal

pub loop-row-preserved : goal.loop-row-preserved
loop-row-preserved c = record {
  words = λ w.
      let l : c.loop-row.row-index < length c.args.rows.now = omega arith in
      let none : NodeRow = record { number = 0; bytes = [] } in
      let r : NodeRow = get_or c.args.rows.now c.loop-row.row-index none in
      let pushed : impact_in c.push_word.new.words.items w ≡ max (impact_in c.loop-row.words.items w) (lifted_by r w c.args.at) = c.in-Ok.ensures.impacts w in
      pushed ∙ ap (λ (k : ℕ). max k (lifted_by r w c.args.at)) (c.loop-row.invariant.words w)
      ∙ sym (lifted-push (take c.loop-row.row-index c.args.rows.now) r w c.args.at)
      ∙ ap (λ (rs : List NodeRow). lifted_at rs w c.args.at) (sym (take_more c.args.rows.now c.loop-row.row-index none l));
}
