use Rattle.rules.specs.Types.{describe}
use Rattle.message.proofs.between.describe.Goals as goal

pub returns-in-Int : goal.returns-in-Int
unfolding describe
returns-in-Int c = cc

pub returns-in-Bool : goal.returns-in-Bool
unfolding describe
returns-in-Bool c = cc

pub returns-in-Address : goal.returns-in-Address
unfolding describe
returns-in-Address c = cc

pub returns-in-Asset : goal.returns-in-Asset
unfolding describe
returns-in-Asset c = cc

pub returns-in-Word64 : goal.returns-in-Word64
unfolding describe
returns-in-Word64 c = cc

pub returns-in-Name : goal.returns-in-Name
unfolding describe
returns-in-Name c = cc

pub returns-in-Time : goal.returns-in-Time
unfolding describe
returns-in-Time c = cc

pub returns-in-Str : goal.returns-in-Str
unfolding describe
returns-in-Str c = cc

pub returns-in-Collection : goal.returns-in-Collection
unfolding describe
returns-in-Collection c = cc

pub returns-in-Unknown : goal.returns-in-Unknown
unfolding describe
returns-in-Unknown c = cc
