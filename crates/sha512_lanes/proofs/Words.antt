-- The lemmas of words, at 64 bits.
use Rattle.std.specs.Int.{w64}
use Rattle.word_lanes.proofs.Words
use Rattle.word_lanes.proofs.Words.{ChooseShort, TurnedThree, TurnedTwo}

pub choose_short : ChooseShort w64
choose_short = Words.choose_short w64

pub turned_two : TurnedTwo 64
turned_two = Words.turned_two 64

pub turned_three : TurnedThree 64
turned_three = Words.turned_three 64
