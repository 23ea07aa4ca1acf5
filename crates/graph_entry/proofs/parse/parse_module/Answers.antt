use Rattle.graph_entry.proofs.parse.parse_module.Goals as goal

-- by the caller's resolver
pub returns-in-Some : goal.returns-in-Some
returns-in-Some g c = rw c.in-Some.is (rw c.in-Ok.ensures at c.parse_by.ensures)

-- by the default one
pub returns : goal.returns
returns g c = rw c.in-None.is (rw c.in-Ok.ensures at c.parse_by-in-None.ensures)
