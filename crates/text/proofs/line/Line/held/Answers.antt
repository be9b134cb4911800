use Rattle.std.proofs.Common.{◌≡◌, length, rules, ap, ◌∙◌, take, ℕ}
use Rattle.text.proofs.LineLaws.{held-part}
use Rattle.text.proofs.line.Line.held.Goals as goal

pub returns : goal.returns
returns c = let n : length c.args.self.now.text ≡ 33 = search rules in
    ap (λ (k : ℕ). take k c.args.self.now.text) c.min.ensures ∙ held-part _ n
