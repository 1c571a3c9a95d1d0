-- What goes on from some picks never costs less.
use Rattle.place_values.specs.GroupLaws.{IsRising, cost_front}
use Rattle.place_values.specs.SumLaws.{sum_rising}
use Rattle.place_map.specs.declared.group.Price.{Price}
use Rattle.place_map.specs.declared.group.Price.TheVariants.{Reach, Sum}
use Rattle.place_map.specs.Prices.{price_of}

pub price_rises : (price : Price) → IsRising (price_of price)
price_rises (Reach at) = cost_front at
price_rises Sum = sum_rising
