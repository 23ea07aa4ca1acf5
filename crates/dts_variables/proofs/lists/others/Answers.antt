use Rattle.dts_variables.proofs.ListLemmas.{others_made}
use Rattle.dts_variables.proofs.lists.others.Goals as goal

-- opened, written, closed
pub returns-clause-written : goal.returns-clause-written
returns-clause-written c = λ e by knows.
    let x = c.args.env.now.text.now in
    let ts = c.args.env.now.tokens.now in
    let f = c.close_group.ensures.before e in
    let g = c.all_declarators.ensures.before f in
    others_made by x ts c.args.out.now c.open-group.new.self c.all_declarators.new.out c.close_group.new.self _ _
    (c.open-group.ensures.written g) (c.open-group.ensures.place g) c.open-group.ensures.state
    (c.all_declarators.ensures.written f by knows) (c.close_group.ensures.written e) c.close_group.ensures.state
