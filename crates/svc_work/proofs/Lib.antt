mod AddressLemmas
mod ConveyLemmas
mod PartLemmas
mod FileLemmas
