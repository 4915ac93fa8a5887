-- What the task asks, in order.
--   entering   the lines of the tariff are entered
--   counting, resting, needing   totals, what rests on luggage, which lines are needed
--   standing   these three, as the books stand
--   closing    a line that would close a circle
--   freeing    luggage becomes free in two places
--   beginning, changing, task   the task up to the first answers, from there on, and whole
use Rattle.std.specs.Prelude.{ℤ, pos, List, [], ◌∷◌, ◌++◌, map}
use Rattle.asking.specs.declared.pair.Pair.{Pair}
use Rattle.tariff.specs.declared.TheConstants.{BLOCKS, LINES}
use Rattle.tariff.specs.declared.Block.{Block}
use Rattle.tariff.specs.declared.Block.TheVariants.{DayFare, AirportTrip, BaseCharge, Luggage, AirportExtra, Discount}
use Rattle.tariff.specs.declared.Line.{Line}
use Rattle.tariff.specs.declared.question.Question.{Question}
use Rattle.tariff.specs.declared.question.Question.TheVariants.{Enter, Strike, Count, Rest, Need}

abbrev pub entering : List Question
entering = map Enter LINES

abbrev pub counting : List Question
counting = map (λ lower. Count (record { upper = AirportTrip; lower = lower })) (BaseCharge ∷ Luggage ∷ Discount ∷ [])

abbrev pub resting : List Question
resting = map (λ upper. Rest (record { upper = upper; lower = Luggage })) BLOCKS

abbrev pub needing : List Question
needing = map (λ (line : Line). Need (record { upper = line.upper; lower = line.lower })) LINES

abbrev pub standing : List Question
standing = counting ++ (resting ++ needing)

abbrev pub closing : List Question
closing = Enter (record { upper = Luggage; lower = AirportTrip; factor = pos 1 }) ∷ []

abbrev pub freeing : List Question
freeing = map (λ upper. Strike (record { upper = upper; lower = Luggage })) (AirportExtra ∷ DayFare ∷ [])

unfoldable pub beginning : List Question
beginning = entering ++ standing

unfoldable pub changing : List Question
changing = closing ++ (freeing ++ standing)

abbrev pub task : List Question
task = beginning ++ changing
