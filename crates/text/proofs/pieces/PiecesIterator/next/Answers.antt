use Rattle.std.proofs.Common.{ap, ◌∙◌, subst, rules}
use Rattle.text.specs.Pieces.{pieces_of, LiesAt}
use Rattle.text.proofs.Cuts.{piece_at}
use Rattle.text.proofs.pieces.PiecesIterator.next.Goals as goal

pub returns-in-Some-clause-steps : goal.returns-in-Some-clause-steps
returns-in-Some-clause-steps c =
    record {
      first = ap (pieces_of c.args.self.now.separator) c.in_ok-text.was ∙ piece_at c.args.self.now.separator c.in_ok-text.text.now c.in-Some.at (search rules) (search rules) (search rules);
      lies = λ text start at. let here = subst (LiesAt text start) c.in_ok-text.was at in (here, (here.0, search (rules, here.1)));
    }
