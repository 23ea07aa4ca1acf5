use Rattle.dts_items.proofs.DefaultLemmas.{name_put}
use Rattle.dts_items.proofs.defaults.made_default.Goals as goal

pub returns-clause-written : goal.returns-clause-written
returns-clause-written c = λ e x ts.
    let f = c.close_group.ensures.before e in
    let g = c.close.ensures.before f in
    let h = c.gone.ensures.before g in
    let i = c.bare.ensures.before h in
    let j = c.open-place.ensures.before i in
    name_put x ts c.args.out.now.row c.open-group.new.self.row c.open-place.new.self.row c.bare.new.self.row
    c.gone.new.self.row c.close.new.self.row c.close_group.new.self.row _ _ c.args.number c.args.it.now.from
    c.args.it.now.to (c.open-group.ensures.written j) (c.open-group.ensures.place j) (c.open-place.ensures.written i)
    (c.open-place.ensures.place i) (c.bare.ensures.written h x ts) (c.gone.ensures.written g x ts)
    (c.close.ensures.written f) (c.close_group.ensures.written e)
