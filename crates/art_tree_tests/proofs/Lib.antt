mod PlantLemmas
