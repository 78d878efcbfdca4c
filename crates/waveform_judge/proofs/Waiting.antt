-- Whether the signals are still to be found.
use Rattle.std.proofs.Common.{◌≡◌, Bool, true, false, cond, List, Option, Some, None, Result, refl}
use Rattle.xif_base.specs.declared.params.Params.{Params}
use Rattle.vcd_text.specs.declared.declaration.Variable.{Variable}
use Rattle.vcd_text.specs.declared.item.Item.{Item}
use Rattle.vcd_text.specs.Reader as reader
use Rattle.xif_sampler.specs.declared.fault.MapFault.{MapFault}
use Rattle.xif_sampler.specs.declared.place.Place.{Place}
use Rattle.xif_sampler.specs.declared.source.Source.{Source}
use Rattle.xif_sampler.specs.Places.{sources_of}
use Rattle.waveform_judge.specs.declared.signals.Signals.{Signals}
use Rattle.waveform_judge.specs.declared.signals.Signals.TheVariants.{Awaited, Found, Lost}
use Rattle.waveform_judge.specs.Represented.{ItemJudging, HasTaken, HasSampled, is_waiting, variables_of}
use Rattle.waveform_judge.proofs.Taking.{nothing_awaited}

alive_by : (failed : Bool) (o : Option (List Variable)) (variables : List Variable) → cond failed None o ≡ Some variables → (failed ≡ false) × (o ≡ Some variables)
alive_by true o variables e = cc
alive_by false o variables e = (refl, e)

-- a reader that has variables goes on
pub alive : (r : reader.Progress) (variables : List Variable) → variables_of r ≡ Some variables → (r.has_failed ≡ false) × (r.read.variables ≡ Some variables)
alive r variables e = alive_by r.has_failed r.read.variables variables e

awaited_not : (signals : Signals) (x : ItemJudging) (params : Params) (found : Result (List Source) MapFault) (items : List Item) → HasSampled signals x params found items → is_waiting signals ≡ false
awaited_not Awaited x params found items p = absurd (nothing_awaited found x params items p)
awaited_not (Found sampler) x params found items p = refl
awaited_not (Lost fault) x params found items p = refl

-- once items are taken, the signals were looked for
pub took_not : (x : ItemJudging) (map : List Place) (params : Params) (variables : List Variable) (items : List Item) → HasTaken x map params variables items → is_waiting x.signals ≡ false
took_not x map params variables items p = awaited_not x.signals x params (sources_of map variables params) items p.signals
