-- What an owner keeps is one program.
use Rattle.std.specs.Prelude.{true, false}
use Rattle.std.proofs.Common.{◌≡◌, sym, ap, subst}
use Rattle.es_ast.specs.declared.ast.Program.{Program}
use Rattle.es_ast.specs.declared.ast.Program.TheVariants as vProgram
use Rattle.es_ast.specs.declared.ast.Module.{Module}
use Rattle.es_ast.specs.declared.ast.Script.{Script}
use Rattle.es_program.specs.declared.source.ProgramSource.{ProgramSource}
use Rattle.es_program.specs.Typed.{the_module, the_script, tells_module}
use Rattle.es_program.specs.Sources.{typed_of, Keeps}

module _ (s : ProgramSource) where
  pub module_keeps : (m : Module) → Keeps s (vProgram.Module m) → Keeps s (vProgram.Module (the_module (typed_of s)))
  module_keeps m keeps =
      let P : Module → Type 0 = λ m. Keeps s (vProgram.Module m) in
      subst P (sym (ap the_module keeps.typed)) keeps

  pub script_keeps : (m : Script) → Keeps s (vProgram.Script m) → Keeps s (vProgram.Script (the_script (typed_of s)))
  script_keeps m keeps =
      let P : Script → Type 0 = λ m. Keeps s (vProgram.Script m) in
      subst P (sym (ap the_script keeps.typed)) keeps

  pub as_module : (p : Program) → Keeps s p → tells_module p ≡ true → (m : Module) × Keeps s (vProgram.Module m)
  as_module (vProgram.Module m) keeps e = (m, keeps)
  as_module (vProgram.Script m) keeps e = let bad : ⊥ = cc in absurd bad

  pub as_script : (p : Program) → Keeps s p → tells_module p ≡ false → (m : Script) × Keeps s (vProgram.Script m)
  as_script (vProgram.Script m) keeps e = (m, keeps)
  as_script (vProgram.Module m) keeps e = let bad : ⊥ = cc in absurd bad
