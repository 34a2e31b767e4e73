-- The numbers of faults.
use Rattle.std.specs.Prelude.{ℕ}
use Rattle.blue_check.specs.declared.fault.CheckFault.{CheckFault}
use Rattle.blue_check.specs.declared.fault.CheckFault.TheVariants.{TwoNames, NoSuchName, NoSuchPort, PortTwice, PortOpen, TypeClash, ClosedWalk, TooDeep, NoSuchPlug, PlugTwice, BadSize, NoSuchModule, PortName, TooLarge, HubWire}

-- the number of a broken rule, 1 to 15, by which the report names it
abbrev pub number_of_fault : CheckFault → ℕ
number_of_fault (TwoNames l) = 1
number_of_fault (NoSuchName l) = 2
number_of_fault (NoSuchPort i) = 3
number_of_fault (PortTwice i) = 4
number_of_fault (PortOpen l o p) = 5
number_of_fault (TypeClash i t w) = 6
number_of_fault (ClosedWalk i) = 7
number_of_fault (TooDeep l) = 8
number_of_fault (NoSuchPlug l) = 9
number_of_fault (PlugTwice l) = 10
number_of_fault (BadSize s) = 11
number_of_fault (NoSuchModule l) = 12
number_of_fault (PortName l p) = 13
number_of_fault TooLarge = 14
number_of_fault (HubWire i) = 15
