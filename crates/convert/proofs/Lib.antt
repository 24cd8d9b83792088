mod ConversionLemmas
mod GuestLemmas
