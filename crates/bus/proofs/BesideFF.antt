-- Slave 04 beside master FF is turned down with 9: FF answers at 04 too (01, "Limits run by program"). Assumes nothing.
use Rattle.std.proofs.Common.{◌≡◌, true, false, refl}
use Rattle.laws.specs.First.{first_from}
use Rattle.address.specs.Half.{half_index}
use Rattle.address.specs.Role.{role_of}
use Rattle.address.specs.Master.{is_master, slave_of}
use Rattle.station.specs.Addressed.{is_own}
use Rattle.station.specs.Station.{fresh}
use Rattle.bus.specs.Attach.{no_such_address, occupied, newcomer, takes_seat, attaches}
use Rattle.bus.specs.Bus.{powered_on, attached_to, refused_by, done}
use Rattle.bus.specs.Conditions.{number_given}
use Rattle.bus.specs.Find.{first_of, there_is}

pub slave_04_beside_ff : number_given (attaches (attaches powered_on 0xFF true).bus 0x04 false) ≡ 9
unfolding attaches powered_on no_such_address occupied takes_seat newcomer fresh role_of is_master half_index slave_of is_own attached_to refused_by done first_of there_is first_from
slave_04_beside_ff = refl

-- and master FF beside slave 04
pub master_ff_beside_04 : number_given (attaches (attaches powered_on 0x04 false).bus 0xFF true) ≡ 9
unfolding attaches powered_on no_such_address occupied takes_seat newcomer fresh role_of is_master half_index slave_of is_own attached_to refused_by done first_of there_is first_from
master_ff_beside_04 = refl
