use Rattle.ob_check.proofs.Keys.{is_new_key, keys_after}
use Rattle.ob_check.proofs.place.FieldNames.declare.Goals as goal

pub returns : goal.returns
returns c =
    let call = c.insert in
    let keys = c.self.inside.names.keys in
    rw (← c.self.view_is) (record {
      is_new = is_new_key c.args.name keys call.result call.ensures.added;
      names = keys_after c.args.name keys call.new.self.keys call.result call.ensures.added
          call.ensures.keys;
    })
