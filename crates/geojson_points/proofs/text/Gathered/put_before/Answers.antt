use Rattle.std.proofs.Common.{◌≡◌, false, Some, None, subst, rules, append-nil}
use Rattle.json_spelled.specs.Json.{member}
use Rattle.json_spelled.specs.View.{json_of}
use Rattle.std.specs.BTreeSet.{contains}
use Rattle.geojson_points.specs.Gathered.{Gathers}
use Rattle.geojson_points.proofs.Gathering.{text_cmp, gathers_new}
use Rattle.geojson_points.proofs.text.Gathered.put_before.Goals as goal

pub returns-in_ok-push : goal.returns-in_ok-push
returns-in_ok-push c = λ members g.
    let fresh : contains text_cmp c.args.self.now.names c.args.name ≡ false = search rules in
    rw c.in_ok-push.ensures.items (gathers_new members c.args.name (json_of c.args.value.now) c.args.self.now.names c.insert.new.self c.args.self.now.strings.items (Some c.in-Some.text) fresh c.in_ok-insert.ensures.updates.0 c.in-Some.ensures g)

pub returns-in_default : goal.returns-in_default
returns-in_default c = λ members g.
    let fresh : contains text_cmp c.args.self.now.names c.args.name ≡ false = search rules in
    subst (Gathers (member c.args.name.now (json_of c.args.value.now) members) c.insert.new.self) (append-nil c.args.self.now.strings.items)
    (gathers_new members c.args.name (json_of c.args.value.now) c.args.self.now.names c.insert.new.self c.args.self.now.strings.items None fresh c.in_ok-insert.ensures.updates.0 c.in_default.ensures g)
