use Rattle.move_alike.proofs.Alike.{text_or, given_alike}
use Rattle.move_alike.proofs.same_or.Goals as goal

pub returns : goal.returns
returns c =
    λ o u f g.
    let x = text_or o _ c.args.otherwise (c.text.ensures o f) in
    let y = text_or u _ c.args.otherwise (c.text-2.ensures u g) in
    given_alike c.unwrap_or.result.now c.unwrap_or-2.result.now c.eq.ensures (rw c.unwrap_or.ensures x) (rw c.unwrap_or-2.ensures y)
