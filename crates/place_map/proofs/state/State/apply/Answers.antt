use Rattle.place_map.proofs.Effects.{put_gives}
use Rattle.place_map.proofs.state.State.apply.Goals as goal

pub returns-in-Put : goal.returns-in-Put
returns-in-Put c =
    put_gives c.args.self.now c.put.new.self c.put.result c.args.update c.in-Put.key c.in-Put.point c.in-Put.words c.in-Put.label c.named-key.result.0 c.named-key.result.1 c.in-Put.is c.named-key.ensures.key c.named-key.ensures.serial c.put.ensures
