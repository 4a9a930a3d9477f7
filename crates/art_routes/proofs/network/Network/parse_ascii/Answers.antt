use Rattle.std.proofs.Common.{refl, subst}
use Rattle.art_routes.specs.Networks.{IsFault, address_of}
use Rattle.art_routes.proofs.TextLemmas.{length_fault, no_address, no_length, no_slash, set_behind, too_long, too_long_fault}
use Rattle.art_routes.proofs.network.Network.parse_ascii.Goals as goal

pub returns-in_default-clause-network : goal.returns-in_default-clause-network
returns-in_default-clause-network c = no_slash c.args.text.now c.in_default.ensures.none

pub returns-in_default-parse_ascii-clause-network : goal.returns-in_default-parse_ascii-clause-network
returns-in_default-parse_ascii-clause-network c =
    no_address c.args.text.now c.in-Some.prefix.now c.in-Some.digits.now c.in-Some.ensures.cut c.in_default-parse_ascii.ensures

pub returns-in_default-length_of-clause-network : goal.returns-in_default-length_of-clause-network
returns-in_default-length_of-clause-network c =
    no_length c.args.text.now c.in-Some.prefix.now c.in-Some.digits.now c.in-Some.ensures.cut c.in_default-length_of.ensures

pub returns-in_default-length_of-clause-fault : goal.returns-in_default-length_of-clause-fault
returns-in_default-length_of-clause-fault c = (
  c.in-Some.prefix.now,
  c.in-Some.digits.now,
  address_of c.in-Ok.address,
  c.in-Some.ensures.cut,
  (c.in-Ok.address, c.in-Ok.ensures, refl),
  length_fault c.args.text.now c.in-Some.prefix.now c.in-Some.digits.now c.in-Some.ensures.cut c.in_default-length_of.ensures c.in-Ok.address,
)

pub returns-in-Err-LengthTooGreat-clause-network : goal.returns-in-Err-LengthTooGreat-clause-network
returns-in-Err-LengthTooGreat-clause-network c =
    too_long c.args.text.now c.in-Some.prefix.now c.in-Some.digits.now c.in-Some.ensures.cut c.in-Ok.address c.in-Ok.ensures c.in-Some-length_of.length c.in-Some-length_of.ensures
    (subst (IsFault (address_of c.in-Ok.address) c.in-Some-length_of.length) c.in-Err-LengthTooGreat.field-0-is c.in-Err-LengthTooGreat.ensures.fault)

pub returns-in-Err-LengthTooGreat-clause-fault : goal.returns-in-Err-LengthTooGreat-clause-fault
returns-in-Err-LengthTooGreat-clause-fault c = (
  c.in-Some.prefix.now,
  c.in-Some.digits.now,
  address_of c.in-Ok.address,
  c.in-Some.ensures.cut,
  (c.in-Ok.address, c.in-Ok.ensures, refl),
  too_long_fault c.args.text.now c.in-Some.prefix.now c.in-Some.digits.now c.in-Some.ensures.cut c.in-Ok.address c.in-Ok.ensures c.in-Some-length_of.length c.in-Some-length_of.ensures
      (subst (IsFault (address_of c.in-Ok.address) c.in-Some-length_of.length) c.in-Err-LengthTooGreat.field-0-is c.in-Err-LengthTooGreat.ensures.fault),
)

pub returns-in-Err-BitsBehindLength-clause-network : goal.returns-in-Err-BitsBehindLength-clause-network
returns-in-Err-BitsBehindLength-clause-network c =
    set_behind c.args.text.now c.in-Some.prefix.now c.in-Some.digits.now c.in-Some.ensures.cut c.in-Ok.address c.in-Ok.ensures c.in-Some-length_of.length c.in-Some-length_of.ensures
    (subst (IsFault (address_of c.in-Ok.address) c.in-Some-length_of.length) c.in-Err-BitsBehindLength.field-0-is c.in-Err-BitsBehindLength.ensures.fault).1
