-- `paths_in_range`: `all` says whether each path passes.
use mathlib.Core.Path.{refl, ap, ◌∙◌}
use Rattle.std.proofs.Common.{rules}
use Rattle.std.proofs.lemmas.List.Recursion.{and_is}
use Rattle.amounts.specs.Lists.{every}
use Rattle.kinds.specs.declared.Rules.{Rules}
use Rattle.kinds.specs.Kinds.{is_path}
use Rattle.closings.proofs.lists.paths_in_range.Goals as goal

pub returns : goal.returns
unfolding every
returns c =
    let test = is_path c.rules-rules.result in
    and_is (every test) test refl (λ _ _. refl) c.args.paths.now 0 c.all.result (search rules) (search rules)
    ∙ ap (λ (r : Rules). every (is_path r) c.args.paths.now) c.rules-rules.ensures
