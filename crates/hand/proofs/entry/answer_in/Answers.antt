use Rattle.hand.proofs.Known.{answered_in}
use Rattle.hand.proofs.entry.answer_in.Goals as goal

pub returns : goal.returns
returns g c =
    let game = g.met.G.Game.is_game in
    answered_in c.args.k c.args.counts.now c.found_for.result g.G.Game.IS_THREE_PLAYER game.all game.number c.in_ok-check.ensures c.found_for.ensures
