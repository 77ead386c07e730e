use Rattle.std.proofs.Common.{◌≡◌, ℕ, List, [], map, nat_lt, Bor, Ok, IfSome, refl, ap, ◌∙◌, subst, arith, rules}
use Rattle.serde_json.specs.View.{view}
use Rattle.cdk_eval.specs.Views.{stack_view}
use Rattle.cdk_assemblies.specs.Answers.{Fails, onto, each_onto, assembly_in, nested_in}
use Rattle.cdk_assemblies.proofs.Readings.{assembly_stable}
use Rattle.cdk_eval.specs.Reading.{path_in}
use Rattle.cdk_assemblies.proofs.Steps.{each_gives, each_fails, refusing}
use Rattle.cdk_assemblies.proofs.Nesting.{level_without_own, last_level, level_goes_on}
use Rattle.cdk_assemblies.proofs.levels.+levels.Goals as goal

-- what a look-up beyond the list would give
abbrev no_name : Bor (List ℕ)
no_name = record { ref_ptr = (0, 0); now = [] }

pub read_level-returns-in_err-manifest-clause-reads : goal.read_level-returns-in_err-manifest-clause-reads
read_level-returns-in_err-manifest-clause-reads g t c =
    refusing _ _ c.in_err-manifest.field-0.0 (g.F.Files.files c.args.files.now) _ (search rules) (level_without_own c.in_err-manifest.field-0.0 (g.F.Files.files c.args.files.now) c.args.levels (nat_lt 0 c.args.levels) c.args.dir.now (map stack_view c.args.into.now) refl c.in_err-manifest.ensures.reads)

pub read_level-returns-then-levels-eq0-clause-reads : goal.read_level-returns-then-levels-eq0-clause-reads
read_level-returns-then-levels-eq0-clause-reads g t c =
    last_level (g.F.Files.files c.args.files.now) c.args.levels (nat_lt 0 c.args.levels) c.args.dir.now (map stack_view c.args.into.now) (map stack_view c.read_own.new.into) (view c.in_ok-manifest.manifest) (omega arith) refl c.in_ok-manifest.ensures.reads

pub read_level-returns-clause-reads : goal.read_level-returns-clause-reads
read_level-returns-clause-reads g t c =
    level_goes_on (λ _. map stack_view c.read_nested.new.into) c.read_nested.result (g.F.Files.files c.args.files.now) (g.F.Files.files c.read_own.new.files) c.args.levels (nat_lt 0 c.args.levels) c.args.dir.now (map stack_view c.args.into.now) (map stack_view c.read_own.new.into) (view c.in_ok-manifest.manifest) (map (λ d. d.now) c.as_slice.result.now) (omega arith) refl c.in_ok-manifest.ensures.reads c.in_ok-manifest.ensures.files (ap (map (λ d. d.now)) c.as_slice.ensures.value ∙ c.in_ok-directories.ensures.ok) c.read_nested.ensures.reads

pub read_nested-returns-in_err-read_level-clause-reads : goal.read_nested-returns-in_err-read_level-clause-reads
read_nested-returns-in_err-read_level-clause-reads g t c =
    let at = c.as_str.ensures ∙ c.in_ok-below.ensures.ok in
    let P : List ℕ → Type 0 = λ p. IfSome (g.F.Files.files c.loop-directory.files) (Fails c.in_err-read_level.field-0.0 (λ m. onto (map stack_view c.loop-directory.into) (assembly_in c.args.levels p m))) in
    refusing _ _ c.in_err-read_level.field-0.0 (g.F.Files.files c.args.files.now) (each_onto (nested_in c.args.levels c.args.dir.now) (map stack_view c.args.into.now) (map (λ d. d.now) c.args.directories.now)) (search rules) (each_fails c.in_err-read_level.field-0.0 (g.F.Files.files c.args.files.now) (g.F.Files.files c.loop-directory.files) (nested_in c.args.levels c.args.dir.now) (λ d. d.now) (map stack_view c.args.into.now) (map stack_view c.loop-directory.into) c.args.directories.now c.loop-directory.directory-index no_name (λ name. assembly_stable c.args.levels (path_in c.args.dir.now name)) c.loop-directory-test.true c.loop-directory.invariant.reads c.loop-directory.invariant.files (subst P at c.in_err-read_level.ensures.reads))

pub read_nested-loop-directory-preserved : goal.read_nested-loop-directory-preserved
read_nested-loop-directory-preserved g t c =
    let at = c.as_str.ensures ∙ c.in_ok-below.ensures.ok in
    let P : List ℕ → Type 0 = λ p. IfSome (g.F.Files.files c.loop-directory.files) (λ m. onto (map stack_view c.loop-directory.into) (assembly_in c.args.levels p m) ≡ Ok (map stack_view c.read_level.new.into)) in
    record {
      reads = each_gives (map stack_view c.read_level.new.into) (g.F.Files.files c.args.files.now) (g.F.Files.files c.loop-directory.files) (nested_in c.args.levels c.args.dir.now) (λ d. d.now) (map stack_view c.args.into.now) (map stack_view c.loop-directory.into) c.args.directories.now c.loop-directory.directory-index no_name c.loop-directory-test.true c.loop-directory.invariant.reads c.loop-directory.invariant.files (subst P at c.in_ok-read_level.ensures.reads);
      noted = c.in_ok-read_level.ensures.noted ∙ c.loop-directory.invariant.noted;
      never_falls = omega arith;
      files = c.in_ok-read_level.ensures.files ∙ c.loop-directory.invariant.files;
      directories = c.in_ok-read_level.ensures.directories ∙ c.loop-directory.invariant.directories;
      write_faults = c.in_ok-read_level.ensures.write_faults ∙ c.loop-directory.invariant.write_faults;
      failed_write = c.in_ok-read_level.ensures.failed_write ∙ c.loop-directory.invariant.failed_write;
    }
