-- The first item, and the shebang, are those of the tree that is kept.
use Rattle.std.proofs.Common.{◌≡◌, ap, ◌∙◌, subst, ℕ, List, Option, Some, None}
use Rattle.std.specs.Option.{MatchOption, option_map, option_copied}
use Rattle.std.specs.List.{slice_get}
use Rattle.es_ast.specs.declared.ast.Program.{Program}
use Rattle.es_ast.specs.declared.ast.ModuleItem.{ModuleItem}
use Rattle.es_program.specs.Owned.{Owned}
use Rattle.es_comments.specs.Placed.{Placed}
use Rattle.deno_ast.specs.Refs.{items_of, shebang_of}
use Rattle.es_program.specs.items.Lent.{lent_item}
use Rattle.deno_ast.specs.Parsed.{leading_by}
use Rattle.deno_ast.proofs.LeadingLemmas.{copied_is}
use Rattle.deno_ast.proofs.source.ParsedSource.get_leading_comments.Goals as goal

pub returns : goal.returns
returns c =
    let placed = c.args.self.now.comments in
    let tree = c.args.self.now.tree.typed in
    let text = c.shebang.result in
    c.leading_in.ensures
    ∙ ap (λ (p : Placed). leading_by p (option_map lent_item c.first_item.result) (option_copied text))
    c.comments.ensures
    ∙ ap (λ (f : Option ModuleItem). leading_by placed f (option_copied text))
    (c.first_item.ensures ∙ ap (λ (t : Owned Program). slice_get (items_of t.typed) 0) c.program_ref-program.ensures)
    ∙ ap (λ (s : Option (List ℕ)). leading_by placed (slice_get (items_of tree) 0) s)
    (copied_is text (shebang_of tree)
    (subst (λ (t : Owned Program). MatchOption text (shebang_of t.typed ≡ None) (λ x. shebang_of t.typed ≡ Some x.now))
    c.program_ref-program.ensures c.shebang.ensures))
