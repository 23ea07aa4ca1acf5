use Rattle.std.proofs.Common.{◌≡◌, ◌≤◌, ◌∙◌, ap, sym, arith, Some, None}
use Rattle.std.specs.Option.{option_copied}
use Rattle.import_map.specs.Names.{noted}
use Rattle.import_map.proofs.NamesLemmas.{note_put}
use Rattle.import_map.proofs.names.note.Goals.{in-Some, in-None}
use Rattle.import_map.proofs.names.note.Goals as goal

-- no less is put at the key than was noted there
pub returns-clause-kept : goal.returns-clause-kept
returns-clause-kept c =
    note_put c.args.names.now.entries c.insert.new.self.entries c.args.key.now c.in_ok-copy.field-0 c.match-get.longest
    c.in_ok-copy.ensures c.in_ok-insert.ensures.updates.0
    (elim c.match-get.branch [
      | in-Some w ↦
          let there : Some w.in-Some.known.now ≡ noted c.args.names.now.entries c.args.key.now =
          sym (ap option_copied w.in-Some.is) ∙ c.get.ensures.value in
          let few : w.in-Some.known.now ≤ c.match-get.longest = omega (arith, w.max-longest.ensures, w.longest-is) in
          rw (← there) few
      | in-None w ↦
          let there : None ≡ noted c.args.names.now.entries c.args.key.now =
          sym (ap option_copied w.in-None.is) ∙ c.get.ensures.value in
          rw (← there) tt
    ])
